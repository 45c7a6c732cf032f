-- Four values through one stream are one message. Assumes nothing.
use Rattle.label.proofs.FingerLaws.{hash_finished, never_unsound}
use Rattle.label.proofs.fingerprint.hash_of_values.Goals as goal

pub returns-in-Ok : goal.returns-in-Ok
returns-in-Ok c =
    hash_finished _ _ c.requires c.finish.result (rw (← c.new-opening.ensures) c.with_values.ensures) c.finish.ensures c.in-Ok.is

pub returns-in-Err : goal.returns-in-Err
returns-in-Err c =
    never_unsound _ _ c.requires c.finish.result (rw (← c.new-opening.ensures) c.with_values.ensures) c.finish.ensures c.in-Err.is

-- The line at the end is the input's. Assumes nothing.
use Rattle.rapid_file.proofs.WholeInput.{written_line}
use Rattle.rapid_file.proofs.run.Goals as goal

pub returns : goal.returns
returns g c =
    let w = rw (c.new-opened.ensures, c.default_secrets.ensures) at c.through_parts.ensures in
    written_line _ _ w _ _ _ c.says.ensures

-- Each `return` stands after as many steps as the rule takes. Below, cN is what is known right after step N. Assumes nothing.
use Rattle.rapidhash.proofs.Steps.{tail_go, tail_stop, tail_end}
use Rattle.rapidhash.proofs.v3.rapid_const.tail_steps.Goals as goal

pub returns-then-r-le16 : goal.returns-then-r-le16
returns-then-r-le16 c = tail_stop _ _ 0 _ _ _ c.if-r-le16.true

pub returns-then-r-le32 : goal.returns-then-r-le32
returns-then-r-le32 c =
    let c1 = c in
    let a = c1.args in
    let s = a.left.now in
    tail_go a.protected s 0 a.s2 _ a.seed c1.if-r-le16.false c1.mix_pair-x0.ensures
    (tail_stop _ _ 1 _ _ _ c.if-r-le32.true)

pub returns-then-r-le48 : goal.returns-then-r-le48
returns-then-r-le48 c =
    let c2 = c in
    let c1 = c2 in
    let a = c1.args in
    let s = a.left.now in
    tail_go a.protected s 0 a.s2 _ a.seed c1.if-r-le16.false c1.mix_pair-x0.ensures
    (tail_go a.protected s 1 a.s2 _ c1.mix_pair-x0.result c2.if-r-le32.false c2.mix_pair-x1.ensures
    (tail_stop _ _ 2 _ _ _ c.if-r-le48.true))

pub returns-then-r-le64 : goal.returns-then-r-le64
returns-then-r-le64 c =
    let c3 = c in
    let c2 = c3 in
    let c1 = c2 in
    let a = c1.args in
    let s = a.left.now in
    tail_go a.protected s 0 a.s2 _ a.seed c1.if-r-le16.false c1.mix_pair-x0.ensures
    (tail_go a.protected s 1 a.s2 _ c1.mix_pair-x0.result c2.if-r-le32.false c2.mix_pair-x1.ensures
    (tail_go a.protected s 2 a.s1 _ c2.mix_pair-x1.result c3.if-r-le48.false c3.mix_pair-x2.ensures
    (tail_stop _ _ 3 _ _ _ c.if-r-le64.true)))

pub returns-then-r-le80 : goal.returns-then-r-le80
returns-then-r-le80 c =
    let c4 = c in
    let c3 = c4 in
    let c2 = c3 in
    let c1 = c2 in
    let a = c1.args in
    let s = a.left.now in
    tail_go a.protected s 0 a.s2 _ a.seed c1.if-r-le16.false c1.mix_pair-x0.ensures
    (tail_go a.protected s 1 a.s2 _ c1.mix_pair-x0.result c2.if-r-le32.false c2.mix_pair-x1.ensures
    (tail_go a.protected s 2 a.s1 _ c2.mix_pair-x1.result c3.if-r-le48.false c3.mix_pair-x2.ensures
    (tail_go a.protected s 3 a.s1 _ c3.mix_pair-x2.result c4.if-r-le64.false c4.mix_pair-x3.ensures
    (tail_stop _ _ 4 _ _ _ c.if-r-le80.true))))

pub returns-then-r-le96 : goal.returns-then-r-le96
returns-then-r-le96 c =
    let c5 = c in
    let c4 = c5 in
    let c3 = c4 in
    let c2 = c3 in
    let c1 = c2 in
    let a = c1.args in
    let s = a.left.now in
    tail_go a.protected s 0 a.s2 _ a.seed c1.if-r-le16.false c1.mix_pair-x0.ensures
    (tail_go a.protected s 1 a.s2 _ c1.mix_pair-x0.result c2.if-r-le32.false c2.mix_pair-x1.ensures
    (tail_go a.protected s 2 a.s1 _ c2.mix_pair-x1.result c3.if-r-le48.false c3.mix_pair-x2.ensures
    (tail_go a.protected s 3 a.s1 _ c3.mix_pair-x2.result c4.if-r-le64.false c4.mix_pair-x3.ensures
    (tail_go a.protected s 4 a.s2 _ c4.mix_pair-x3.result c5.if-r-le80.false c5.mix_pair-x4.ensures
    (tail_stop _ _ 5 _ _ _ c.if-r-le96.true)))))

pub returns : goal.returns
returns c =
    let c5 = c in
    let c4 = c5 in
    let c3 = c4 in
    let c2 = c3 in
    let c1 = c2 in
    let a = c1.args in
    let s = a.left.now in
    tail_go a.protected s 0 a.s2 _ a.seed c1.if-r-le16.false c1.mix_pair-x0.ensures
    (tail_go a.protected s 1 a.s2 _ c1.mix_pair-x0.result c2.if-r-le32.false c2.mix_pair-x1.ensures
    (tail_go a.protected s 2 a.s1 _ c2.mix_pair-x1.result c3.if-r-le48.false c3.mix_pair-x2.ensures
    (tail_go a.protected s 3 a.s1 _ c3.mix_pair-x2.result c4.if-r-le64.false c4.mix_pair-x3.ensures
    (tail_go a.protected s 4 a.s2 _ c4.mix_pair-x3.result c5.if-r-le80.false c5.mix_pair-x4.ensures
    (tail_go a.protected s 5 a.s1 _ c5.mix_pair-x4.result c.if-r-le96.false c.mix_pair.ensures
    (tail_end _ _ 6 _))))))

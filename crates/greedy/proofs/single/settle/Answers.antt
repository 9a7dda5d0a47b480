use Rattle.std.proofs.Common.{ℕ, ◌-◌, arith}
use Rattle.std.proofs.Math.Path.{ap₂}
use Rattle.greedy.proofs.Settle.{settle_fits, settle_done}
use Rattle.greedy.proofs.single.settle.Goals as goal

pub overflow_add-scratch : goal.overflow_add-scratch
overflow_add-scratch c =
    let room = ap₂ (λ (x y : ℕ). x - y) c.limit_of.ensures c.weight_at-weight.ensures in
    let high = settle_fits c.args.tree.accepted c.requires _ _ room c.cut_children-rest.ensures in
    record { fits = omega (arith, high, c.weight_at-weight.ensures, c.args.tree.accepted.sound.limit_high) }

pub returns : goal.returns
returns c =
    let room = ap₂ (λ (x y : ℕ). x - y) c.limit_of.ensures c.weight_at-weight.ensures in
    settle_done c.args.tree.accepted c.requires _ _ room c.cut_children-rest.ensures _
    (omega (arith, c.weight_at-weight.ensures)) c.cut_children-rest.auto.scratch c.cut_children-rest.auto.marks

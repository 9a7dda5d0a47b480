-- No refusal has the number of acceptance. Proves refusal_number. Assumes nothing.
use Rattle.std.specs.Prelude.{◌≡◌}
use Rattle.std.proofs.Common.{arith}
use Rattle.model.specs.Refusals.{refusal_answer}
use Rattle.model.specs.declared.Cause.TheVariants.{BadMark, HeavyPage}
use Rattle.model.specs.declared.Refusal.{Refusal}
use Rattle.model.specs.declared.Refusal.TheVariants.{ShortTable, BadCount, BadLimit, BadLength, BadWalk, HeavyNode, BadMarks}
use Rattle.model.specs.declared.Refusal.TheVariants.{ShortScratch, PlanFailed, BadOutput, NoArchive, NoLabel, ManyNodes}

pub refusal_number : (r : Refusal) → (refusal_answer r).number ≡ 0 → ⊥
refusal_number ShortTable z = omega arith
refusal_number (BadCount n) z = omega arith
refusal_number (BadLimit k) z = omega arith
refusal_number (BadLength size) z = omega arith
refusal_number (BadWalk met) z = omega arith
refusal_number (HeavyNode v) z = omega arith
refusal_number (BadMarks n) z = omega arith
refusal_number (ShortScratch words) z = omega arith
refusal_number (PlanFailed (BadMark v)) z = omega arith
refusal_number (PlanFailed (HeavyPage p)) z = omega arith
refusal_number (BadOutput size) z = omega arith
refusal_number NoArchive z = omega arith
refusal_number (NoLabel v) z = omega arith
refusal_number (ManyNodes n) z = omega arith

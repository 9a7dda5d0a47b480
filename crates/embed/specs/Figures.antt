-- An answer as four numbers, and a price and a saving as these four and an amount.
use Rattle.std.specs.Prelude.{ℕ, ℤ, []}
use Rattle.model.specs.Refusals.{Answer, Outcome, outcome, SavingLeft, saving_told}
use Rattle.model.specs.declared.Refusal.{Refusal}
use Rattle.model.specs.declared.Saving.{Saving}
use Rattle.std.specs.declared.result.Result.{Result}
use Rattle.model.specs.declared.Verdict.{Verdict}
use Rattle.model.specs.declared.Verdict.TheVariants.{Feasible, Failed}
use Rattle.std.specs.declared.option.Option.{Option}
use Rattle.std.specs.declared.option.Option.TheVariants.{Some, None}
use Rattle.embed.specs.declared.Figures.{Figures}
use Rattle.embed.specs.declared.PriceAnswer.{PriceAnswer}
use Rattle.embed.specs.declared.SavingAnswer.{SavingAnswer}

-- number and place, with the verdict's page count and root weight, or 0 and 0 where it has none
abbrev pub figures_by : ℕ → ℕ → Verdict → Figures
figures_by n p (Feasible pages root) = record { number = n; place = p; pages = pages; root = root }
figures_by n p (Failed c) = record { number = n; place = p; pages = 0; root = 0 }

abbrev pub figures_with : ℕ → ℕ → Option Verdict → Figures
figures_with n p (Some v) = figures_by n p v
figures_with n p None = record { number = n; place = p; pages = 0; root = 0 }

abbrev pub figures_of : Answer → Figures
figures_of a = figures_with a.number a.place a.beside

-- the four numbers, with the amount
abbrev pub with_cents : Figures → ℕ → PriceAnswer
with_cents f c = record { number = f.number; place = f.place; pages = f.pages; root = f.root; cents = c }

abbrev pub with_saving : Figures → ℤ → SavingAnswer
with_saving f z = record { number = f.number; place = f.place; pages = f.pages; root = f.root; saving = z }

abbrev pub price_answer : Outcome Answer ℕ → PriceAnswer
price_answer o = with_cents (figures_of o.answer) o.left

abbrev pub saving_answer : Outcome Answer ℤ → SavingAnswer
saving_answer o = with_saving (figures_of o.answer) o.left

-- the answer and the amount that a saving tells, whatever it leaves
abbrev pub amount_told : Result Saving Refusal → Outcome Answer ℤ
amount_told z = let o : Outcome Answer SavingLeft = saving_told z [] [] in outcome o.answer o.left.saving

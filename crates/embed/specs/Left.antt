-- What a door tells of its entry's answer, with every buffer that is left as its entry leaves it; and that what the
-- entry promises holds of what the door tells.
use Rattle.std.specs.Prelude.{◌≡◌, List, ℕ}
use Rattle.model.specs.Refusals.{Outcome, outcome, PlanBuffers, SavingLeft}
use Rattle.model.specs.Demand.{WeightPromise, JudgePromise, PlanPromise, BestPromise, QuickPromise, WritePromise}
use Rattle.model.specs.Demand.{ReadPromise, ConvertPromise, PrintPromise, PricePromise, SavingPromise}
use Rattle.model.specs.Refusals.{Answer}
use Rattle.model.specs.declared.Edition.{Edition}
use Rattle.embed.specs.declared.Figures.{Figures}
use Rattle.embed.specs.declared.PriceAnswer.{PriceAnswer}
use Rattle.embed.specs.declared.SavingAnswer.{SavingAnswer}
use Rattle.embed.specs.Figures.{figures_of, price_answer, saving_answer}

-- the same, with what a door tells in the place of the answer
abbrev pub told : {Answered Told Left : Type 0} → (Answered → Told) → Outcome Answered Left → Outcome Told Left
told by o = outcome (by o.answer) o.left

-- the saving is told with the answer
abbrev pub saving_left : Outcome Answer SavingLeft → Outcome SavingAnswer PlanBuffers
saving_left o = outcome (saving_answer (outcome o.answer o.left.saving)) o.left.best

-- the numbers are told of an answer of which the entry's promise holds
pub record FiguresOf {Answered Told : Type 0} (by : Answered → Told) (Promise : Answered → Type 0) (f : Told)
    : Type 0 where
  pub answer : Answered
  pub figures : f ≡ by answer
  pub promise : Promise answer

abbrev pub WeightFigures : List ℕ → Figures → Type 0
WeightFigures t f = FiguresOf figures_of (λ r. WeightPromise t r) f

abbrev pub JudgeFigures : List ℕ → List ℕ → Figures → Type 0
JudgeFigures t m f = FiguresOf figures_of (λ r. JudgePromise t m r) f

abbrev pub PlanFigures : List ℕ → List ℕ → List ℕ → Figures → List ℕ → List ℕ → Type 0
PlanFigures t m s f marks scratch = FiguresOf figures_of (λ r. PlanPromise t m s r marks scratch) f

abbrev pub BestFigures : List ℕ → List ℕ → List ℕ → Figures → List ℕ → Type 0
BestFigures t m s f marks = FiguresOf figures_of (λ r. BestPromise t m s r marks) f

abbrev pub QuickFigures : List ℕ → Figures → Type 0
QuickFigures t f = FiguresOf figures_of (λ r. QuickPromise t r) f

abbrev pub WriteFigures : Edition → List ℕ → List ℕ → List ℕ → Figures → List ℕ → Type 0
WriteFigures e t m out f archive = FiguresOf figures_of (λ r. WritePromise e t m out r archive) f

abbrev pub PrintFigures : List ℕ → List ℕ → List ℕ → Figures → List ℕ → Type 0
PrintFigures t m out f sheets = FiguresOf figures_of (λ r. PrintPromise t m out r sheets) f

abbrev pub ReadFigures : Edition → Edition → List ℕ → List ℕ → List ℕ → Figures → List ℕ → List ℕ → Type 0
ReadFigures e other a table marks f t m = FiguresOf figures_of (λ r. ReadPromise e other a table marks r t m) f

abbrev pub ConvertFigures : Edition → Edition → List ℕ → List ℕ → Figures → List ℕ → Type 0
ConvertFigures from to a out f archive = FiguresOf figures_of (λ r. ConvertPromise from to a out r archive) f

abbrev pub PriceFigures : List ℕ → List ℕ → PriceAnswer → Type 0
PriceFigures t m f = FiguresOf price_answer (λ o. PricePromise t m o.answer o.left) f

abbrev pub SavingFigures : List ℕ → List ℕ → List ℕ → SavingAnswer → List ℕ → List ℕ → Type 0
SavingFigures t m s f marks scratch =
    FiguresOf saving_answer (λ o. SavingPromise t m s o.answer o.left marks scratch) f

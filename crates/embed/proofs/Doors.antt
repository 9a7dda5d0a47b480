-- What a door tells and leaves, from its entry's answer and what that leaves, whichever entry it is. Proves opens. Assumes
-- nothing.
use mathlib.Core.Path.{◌≡◌, ◌∙◌, ap}
use Rattle.model.specs.Refusals.{Answer, Outcome, outcome}
use Rattle.embed.specs.declared.Figures.{Figures}
use Rattle.embed.specs.Figures.{figures_of}
use Rattle.embed.specs.Left.{told}

pub opens : {Left : Type 0} {r : Answer} {f : Figures} {x : Left} {o : Outcome Answer Left} → f ≡ figures_of r
    → outcome r x ≡ o → outcome f x ≡ told figures_of o
opens {x = x} same is = ap (λ (g : Figures). outcome g x) same ∙ ap (told figures_of) is

use Rattle.std.proofs.Common.{rules}
use Rattle.embed.specs.Figures.{amount_told}
use Rattle.embed.proofs.balduqen_saving.Goals as goal

pub returns-clause-saving_figures : goal.returns-clause-saving_figures
returns-clause-saving_figures c =
    record {
      answer = amount_told c.saving.result;
      figures = search rules;
      promise = search rules;
    }

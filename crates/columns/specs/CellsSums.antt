-- The sums over a run: of no member, and with one more member; and a place for each gain.
-- Defines gain_slots, no_sums, joined_sums. Assumes nothing.
use Rattle.std.specs.Prelude.{ℕ, ◌+◌, max, get_or, set, replicate}
use Rattle.model.specs.Table.{max_limit}
use Rattle.columns.specs.declared.run.Sums.{Sums}

-- a place for each gain, from 0 to the highest page limit
abbrev pub gain_slots : ℕ
gain_slots = max_limit + 1

abbrev pub no_sums : Sums
no_sums = record { len = 0; total = 0; gained = 0; top = 0; counts = replicate gain_slots 0 }

abbrev pub joined_sums : Sums → ℕ → ℕ → Sums
joined_sums s rest gain =
    record {
      len = s.len + 1;
      total = s.total + rest;
      gained = s.gained + gain;
      top = max s.top gain;
      counts = set s.counts gain (get_or s.counts gain 0 + 1);
    }

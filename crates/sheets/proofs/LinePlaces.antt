-- What a line of a sheet is, by its place. Assumes nothing.
use Rattle.theory.specs.SheetLines.{first_line_lem, last_line_lem, page_line_lem, blank_line}

pub ruleset line_places = (first_line_lem, last_line_lem, page_line_lem, blank_line)

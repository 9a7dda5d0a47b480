-- What the judge promises, which rests on statements that must-fail edits make false; and its answer with a verdict.
pub mod Judged
pub mod PromiseJudge

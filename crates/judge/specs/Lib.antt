-- What the contracts of the judge cite, and what it promises.
pub mod Judging
pub mod PromiseJudge

-- Laws about the definitions of document 01, by group, each file after those that it rests on.
-- Bools, numbers 1 to n, lists, words
pub mod Bools
pub mod Ranges
pub mod Search
pub mod Sums
pub mod Chosen
pub mod Lists
pub mod Words
-- Lists of checks, and entries over them
pub mod Checks
pub mod Refused
pub mod Entries
-- Tables of sound form: facts, numbering, links, siblings, marks laid by number, bytes, and words put into bytes
pub mod TableFacts
pub mod PlanShape
pub mod TableNumbered
pub mod TableLinks
pub mod TableChain
pub mod SiblingChains
pub mod SiblingsByParent
pub mod SiblingsBack
pub mod LaidByNumber
pub mod TableEncoded
pub mod Put
-- Text: a position in a buffer, numbers in decimal
pub mod Appended
pub mod Decimals
-- Plans: pages by number, arrays with a slot a node, the judge's answer, plans by shape, that both say the same, and
-- entries that judge
pub mod PlanPass
pub mod Slots
pub mod PlanPages
pub mod JudgeAnswers
pub mod PlanMarks
pub mod PlanBridge
pub mod PlanWeighs
pub mod PlanLaid
pub mod PlanFeasible
pub mod JudgedEntries
-- Sequences of sibling runs, the runs of a plan and the plan of runs
pub mod RunsFacts
pub mod RunsSame
pub mod RunsMarked
pub mod PagesByNumber
pub mod RunsByMarks
pub mod RunsOfPlan
pub mod RunsToPlan
pub mod RunsHeld
-- The archive: its words, writing and reading back, the answers of its entries
pub mod ArchiveWords
pub mod ArchiveBack
pub mod ArchiveAnswers
-- Leader sheets: their lines, and reading them by columns
pub mod SheetLines
pub mod SheetsRead
-- Prices: fills, and totals
pub mod PricePages
-- Gains taken off: all planners; single and pair
pub mod Reduce
pub mod ReduceCount
pub mod SingleShape
pub mod PairShape
-- The quick planners: rightmost by shape, depth-first by number
pub mod RightmostShape
pub mod DepthFirst
-- Best and level: the optimality of best
pub mod BestGreedy
pub mod BestLevel
pub mod BestCandidates
pub mod BestEntries
pub mod BestNodes
pub mod BestLaid
pub mod BestRealPlans
pub mod BestShape
pub mod BestLowest
-- What the entries promise: the demands
pub mod PromiseWeight
pub mod PromisePlanner
pub mod ArchiveLowest
pub mod PromiseConvert
pub mod PromiseSheets
pub mod PromisePrice

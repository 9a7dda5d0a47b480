-- Document 01, the page program: what it writes for the bytes that it read, as one definition. A list of numbers is a
-- string of bytes.
use Rattle.std.specs.Prelude.{ℕ, ◌+◌, ◌*◌, List, ◌++◌, replicate, eqb}
use Rattle.model.specs.Basics.{pick, list_to}
use Rattle.model.specs.Decimal.{decimal, bytes}
use Rattle.model.specs.Table.{max_nodes, node_count, limit_of}
use Rattle.model.specs.Plan.{page_count, page_weight}
use Rattle.model.specs.Runs.{page_run}
use Rattle.model.specs.Refusals.{Outcome, PlanBuffers, plan_best}
use Rattle.model.specs.Refusals.{Answer}

-- ---- Lines; each ends in one newline byte

-- no line is longer
abbrev pub line_bytes : ℕ
line_bytes = 80

-- no report is longer: a head line, and a line for each page
abbrev pub report_bytes : ℕ
report_bytes = line_bytes * (max_nodes + 1)

-- a word and the number after it
unfoldable pub item : List ℕ → ℕ → List ℕ
item word n = word ++ decimal n

-- 'pages 3 root 5 limit 5'
unfoldable pub head_line : ℕ → ℕ → ℕ → List ℕ
head_line pages root limit =
    item (bytes "pages ") pages ++ item (bytes " root ") root ++ item (bytes " limit ") limit ++ bytes "\n"

-- 'page 2 first 2 last 6 weight 4'
unfoldable pub page_line : ℕ → ℕ → ℕ → ℕ → List ℕ
page_line page first last weight =
    item (bytes "page ") page ++ item (bytes " first ") first ++ item (bytes " last ") last
    ++ item (bytes " weight ") weight ++ bytes "\n"

-- 'refused 7 at 1'
unfoldable pub refusal_line : ℕ → ℕ → List ℕ
refusal_line number place = item (bytes "refused ") number ++ item (bytes " at ") place ++ bytes "\n"

-- ---- The report

-- a plan: page count, root weight and limit; then a line a page
unfoldable pub plan_lines : List ℕ → List ℕ → List ℕ
plan_lines t m =
    head_line (page_count t m) (page_weight t m 1) (limit_of t)
    ++ list_to (page_count t m) (λ p. page_line p (page_run t m p).first (page_run t m p).last (page_weight t m p))

-- an answer with the marks beside it: a refusal is one line
unfoldable pub answer_lines : List ℕ → Outcome Answer PlanBuffers → List ℕ
answer_lines t made =
    pick (eqb made.answer.number 0) (plan_lines t made.left.marks)
    (refusal_line made.answer.number made.answer.place)

-- the scratch words that the program lends
abbrev pub scratch_lent : ℕ
scratch_lent = 10240

-- what the program writes for the table t: it lends a mark a node and the scratch words, all zero
unfoldable pub report_of : List ℕ → List ℕ
report_of t = answer_lines t (plan_best t (replicate (node_count t) 0) (replicate scratch_lent 0))

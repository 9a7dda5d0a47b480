-- The choices of a run from its last child back: which members follow their second plan follows from the level, and
-- from how many members at the level are still to the left.
-- Defines takes, last_mark, choices_by_level, levelling.
-- Proves take_down_to_snoc, choices_by_level-run (the choices of a reduced run, the last first), run_level, count_back; and
-- levelling_start, levelling_down, levelling_take, levelling_stop (the level, one choice a turn). Assumes nothing.
use Rattle.std.specs.Prelude.{ℕ, zero, suc, ◌+◌, ◌-◌, ◌≤◌, ◌<◌, ◌≡◌, refl, Bool, true, false, ◌&&◌, ◌||◌, List, [], ◌∷◌, ◌++◌, reverse, length, eqb, ltb}
use Rattle.std.proofs.Common.{sym, ◌∙◌, ap, ap₂, append_assoc, arith, length-append, eqb-true, ltb-true, ltb-false, eq-eqb, ne_eqb, lt-ltb, le-ltb, le-leb}
use Rattle.std.proofs.lemmas.List.{reverse-append}
use Rattle.std.proofs.lemmas.Bool.{eqb-false, lt-leb}
use Rattle.model.specs.Basics.{pick}
use Rattle.model.specs.Plan.{begins, continues}
use Rattle.model.specs.Steps.{Member, Child, Choice, as_member, run_choices, run_of}
use Rattle.theory.specs.Reduce.{sum_of}
use Rattle.theory.specs.ReduceCount.{has_gain, count_gain, count_gain_cons}
use Rattle.best.specs.CellsLevel.{taken_off, take_down_to, take_down_to_above, take_down_to_under}
use Rattle.best.specs.CellsLevel.{take_down_to_at, level_here, level_from, take_by_level, reduce_level}
use Rattle.columns.specs.Cells.{last_children}
use Rattle.columns.specs.CellsRun.{as_members, members_length, members_sound, RunSums, counts_of}
use Rattle.columns.specs.declared.run.Sums.{Sums}
use Rattle.best.specs.declared.lay.GainLevel.{GainLevel}

-- ---- The last member

-- whether a member with this gain is taken at the level g, where n at the level come before it and t are taken
abbrev pub takes : ℕ → ℕ → ℕ → ℕ → Bool
takes g t n gain = ltb g gain || (eqb gain g && ltb n t)

abbrev take_last : ℕ → ℕ → ℕ → Member → Member
take_last g t n m = pick (takes g t n m.gain) (taken_off m) m

take_down_to_one : (g t : ℕ) (m : Member) → take_down_to g t (m ∷ []) ≡ take_last g t 0 m ∷ []
unfolding take_down_to pick
take_down_to_one g zero m = go (ltb g m.gain) (eqb m.gain g)
  where
    go : (a b : Bool) → pick a (taken_off m) m ∷ [] ≡ pick (a || (b && false)) (taken_off m) m ∷ []
    go true b = refl
    go false true = refl
    go false false = refl
take_down_to_one g (suc t) m = rw (lt-ltb 0 (suc t) (omega arith)) (go (ltb g m.gain) (eqb m.gain g))
  where
    go : (a b : Bool) → pick a (taken_off m ∷ []) (pick b (taken_off m ∷ []) (m ∷ []))
        ≡ pick (a || (b && true)) (taken_off m) m ∷ []
    go true b = refl
    go false true = refl
    go false false = refl

-- none at the level is taken
takes_none : (g n k gain : ℕ) → takes g 0 n gain ≡ takes g 0 k gain
takes_none g n k gain = rw (le-ltb n 0 (omega arith), le-ltb k 0 (omega arith))

takes_one : (g t n gain : ℕ) → takes g (suc t) (1 + n) gain ≡ takes g t n gain
takes_one g t n gain = go (ltb n t) refl
  where
    go : (b : Bool) → ltb n t ≡ b → takes g (suc t) (1 + n) gain ≡ takes g t n gain
    go true e = let l : n < t = ltb-true n t e in rw (e, lt-ltb (1 + n) (suc t) (omega arith))
    go false e = let l : t ≤ n = ltb-false n t e in rw (e, le-ltb (1 + n) (suc t) (omega arith))

count_other : (g : ℕ) (x : Member) (ms : List Member) → (x.gain ≡ g → ⊥) → count_gain g (x ∷ ms) ≡ count_gain g ms
unfolding pick
count_other g x ms d = count_gain_cons g x ms ∙ rw (ne_eqb x.gain g d) (omega arith)

count_same : (g : ℕ) (x : Member) (ms : List Member) → x.gain ≡ g → count_gain g (x ∷ ms) ≡ 1 + count_gain g ms
unfolding pick
count_same g x ms e = count_gain_cons g x ms ∙ rw (eq-eqb x.gain g e) refl

pub take_down_to_snoc : (g t : ℕ) (ms : List Member) (m : Member)
    → take_down_to g t (ms ++ (m ∷ [])) ≡ take_down_to g t ms ++ (take_last g t (count_gain g ms) m ∷ [])
unfolding take_down_to count_gain sum_of
take_down_to_snoc g zero [] m = take_down_to_one g zero m
take_down_to_snoc g (suc t) [] m = take_down_to_one g (suc t) m
take_down_to_snoc g zero (x ∷ ms) m =
    ap (λ l. pick (ltb g x.gain) (taken_off x) x ∷ l)
    (take_down_to_snoc g zero ms m ∙ ap (λ b. take_down_to g zero ms ++ (pick b (taken_off m) m ∷ []))
    (takes_none g (count_gain g ms) (count_gain g (x ∷ ms)) m.gain))
take_down_to_snoc g (suc t) (x ∷ ms) m =
    go (ltb g x.gain) (eqb x.gain g) refl refl (take_down_to_snoc g (suc t) ms m) (take_down_to_snoc g t ms m)
  where
    go : (a b : Bool) → ltb g x.gain ≡ a → eqb x.gain g ≡ b
        → take_down_to g (suc t) (ms ++ (m ∷ []))
        ≡ take_down_to g (suc t) ms ++ (take_last g (suc t) (count_gain g ms) m ∷ [])
        → take_down_to g t (ms ++ (m ∷ [])) ≡ take_down_to g t ms ++ (take_last g t (count_gain g ms) m ∷ [])
        → take_down_to g (suc t) (x ∷ (ms ++ (m ∷ [])))
        ≡ take_down_to g (suc t) (x ∷ ms) ++ (take_last g (suc t) (count_gain g (x ∷ ms)) m ∷ [])
    go true b p q h k =
        let l : g < x.gain = ltb-true g x.gain p in
        let n : x.gain ≡ g → ⊥ = λ e. omega arith in
        take_down_to_above g x (ms ++ (m ∷ [])) (suc t) l
        ∙ ap (λ l. taken_off x ∷ l) h
        ∙ rw (take_down_to_above g x ms (suc t) l, count_other g x ms n)
    go false true p q h k =
        let e : x.gain ≡ g = eqb-true x.gain g q in
        take_down_to_at g x (ms ++ (m ∷ [])) t e
        ∙ ap (λ l. taken_off x ∷ l) k
        ∙ rw (take_down_to_at g x ms t e, count_same g x ms e, takes_one g t (count_gain g ms) m.gain)
    go false false p q h k =
        let d : x.gain ≡ g → ⊥ = eqb-false x.gain g q in
        let l : x.gain < g = omega (arith, ltb-false g x.gain p, d) in
        take_down_to_under g x (ms ++ (m ∷ [])) (suc t) l
        ∙ ap (λ l. x ∷ l) h
        ∙ rw (take_down_to_under g x ms (suc t) l, count_other g x ms d)

-- the mark of the last of a run
abbrev pub last_mark : ℕ → ℕ
last_mark n = pick (eqb n 0) begins continues

run_choices-continues : (ms : List Member) (m : Member)
    → run_choices continues (ms ++ (m ∷ []))
    ≡ run_choices continues ms ++ (record { mark = continues; second = m.taken } ∷ [])
unfolding run_choices
run_choices-continues [] m = refl
run_choices-continues (x ∷ ms) m =
    ap (λ l. record { mark = continues; second = x.taken } ∷ l) (run_choices-continues ms m)

run_choices_snoc : (ms : List Member) (m : Member)
    → run_choices begins (ms ++ (m ∷ []))
    ≡ run_choices begins ms ++ (record { mark = last_mark (length ms); second = m.taken } ∷ [])
unfolding run_choices pick
run_choices_snoc [] m = refl
run_choices_snoc (x ∷ ms) m =
    let d : suc (length ms) ≡ 0 → ⊥ = λ e. omega arith in
    rw (ne_eqb (suc (length ms)) 0 d)
    (ap (λ l. record { mark = begins; second = x.taken } ∷ l) (run_choices-continues ms m))

-- ---- A run from its last child back

-- the choices of the last r children, the last first: n of them are at the level g, of which the earliest t are taken
unfoldable pub choices_by_level : ℕ → ℕ → ℕ → ℕ → List Child → List Choice
choices_by_level g t n zero ks = []
choices_by_level g t n (suc r) [] = []
choices_by_level g t n (suc r) (k ∷ ks) =
    record { mark = last_mark r; second = takes g t (n - pick (eqb k.gain g) 1 0) k.gain }
    ∷ choices_by_level g t (n - pick (eqb k.gain g) 1 0) r ks

pub last_children-append : (r : ℕ) (run ks : List Child) → last_children r run ks ≡ last_children r [] ks ++ run
unfolding last_children
last_children-append zero run ks = refl
last_children-append (suc r) run [] = refl
last_children-append (suc r) run (k ∷ ks) =
    last_children-append r (k ∷ run) ks
    ∙ sym (ap (λ l. l ++ run) (last_children-append r (k ∷ []) ks) ∙ append_assoc (last_children r [] ks) (k ∷ []) run)

pub last_children-length : (r : ℕ) (ks : List Child) → r ≤ length ks → length (last_children r [] ks) ≡ r
unfolding last_children
last_children-length zero ks h = refl
last_children-length (suc r) [] h = absurd (omega arith)
last_children-length (suc r) (k ∷ ks) h =
    ap length (last_children-append r (k ∷ []) ks)
    ∙ length-append (last_children r [] ks) (k ∷ [])
    ∙ omega (arith, last_children-length r ks (omega arith))

pub members_snoc : (run : List Child) (k : Child) → as_members (run ++ (k ∷ [])) ≡ as_members run ++ (as_member k ∷ [])
members_snoc [] k = refl
members_snoc (x ∷ run) k = ap (λ l. as_member x ∷ l) (members_snoc run k)

pub count_snoc : (g : ℕ) (ms : List Member) (m : Member) → count_gain g (ms ++ (m ∷ [])) ≡ count_gain g ms + has_gain g m
unfolding count_gain sum_of
count_snoc g [] m = omega arith
count_snoc g (x ∷ ms) m = omega (arith, count_snoc g ms m)

take_down_to-length : (g t : ℕ) (ms : List Member) → length (take_down_to g t ms) ≡ length ms
unfolding take_down_to pick
take_down_to-length g zero [] = refl
take_down_to-length g (suc t) [] = refl
take_down_to-length g zero (m ∷ ms) = ap suc (take_down_to-length g zero ms)
take_down_to-length g (suc t) (m ∷ ms) =
    go (ltb g m.gain) (eqb m.gain g) (take_down_to-length g (suc t) ms) (take_down_to-length g t ms)
  where
    go : (a b : Bool) → length (take_down_to g (suc t) ms) ≡ length ms → length (take_down_to g t ms) ≡ length ms
        → length (pick a (taken_off m ∷ take_down_to g (suc t) ms)
        (pick b (taken_off m ∷ take_down_to g t ms) (m ∷ take_down_to g (suc t) ms))) ≡ length (m ∷ ms)
    go true b h k = ap suc h
    go false true h k = ap suc k
    go false false h k = ap suc h

take_last_taken : (b : Bool) (k : Child) → (pick b (taken_off (as_member k)) (as_member k)).taken ≡ b
unfolding as_member pick
take_last_taken true k = refl
take_last_taken false k = refl

pub choices_by_level-run : (g t r : ℕ) (ks : List Child) → r ≤ length ks
    → choices_by_level g t (count_gain g (as_members (last_children r [] ks))) r ks
    ≡ reverse (run_choices begins (take_down_to g t (as_members (last_children r [] ks))))
unfolding choices_by_level last_children take_down_to run_choices as_member
choices_by_level-run g t zero ks h = refl
choices_by_level-run g t (suc r) [] h = absurd (omega arith)
choices_by_level-run g t (suc r) (k ∷ ks) h =
    let P : List Child = last_children r [] ks in
    let n : ℕ = count_gain g (as_members P) in
    let ms : List Member = take_down_to g t (as_members P) in
    let last : Member = take_last g t n (as_member k) in
    let whole : as_members (last_children r (k ∷ []) ks) ≡ as_members P ++ (as_member k ∷ []) =
    ap as_members (last_children-append r (k ∷ []) ks) ∙ members_snoc P k in
    let count : count_gain g (as_members (last_children r (k ∷ []) ks)) - pick (eqb k.gain g) 1 0 ≡ n =
    omega (arith, ap (count_gain g) whole, count_snoc g (as_members P) (as_member k)) in
    let long : length ms ≡ r =
    take_down_to-length g t (as_members P) ∙ members_length P ∙ last_children-length r ks (omega arith) in
    let taken : take_down_to g t (as_members (last_children r (k ∷ []) ks)) ≡ ms ++ (last ∷ []) =
    ap (take_down_to g t) whole ∙ take_down_to_snoc g t (as_members P) (as_member k) in
    let laid : reverse (run_choices begins (take_down_to g t (as_members (last_children r (k ∷ []) ks))))
    ≡ record { mark = last_mark r; second = takes g t n k.gain } ∷ reverse (run_choices begins ms) =
    ap (λ x. reverse (run_choices begins x)) taken
    ∙ ap reverse (run_choices_snoc ms last)
    ∙ reverse-append (run_choices begins ms) (record { mark = last_mark (length ms); second = last.taken } ∷ [])
    ∙ ap₂ (λ x y. record { mark = last_mark x; second = y } ∷ reverse (run_choices begins ms)) long
    (take_last_taken (takes g t n k.gain) k) in
    ap (λ x. record { mark = last_mark r; second = takes g t x k.gain } ∷ choices_by_level g t x r ks) count
    ∙ ap (λ l. record { mark = last_mark r; second = takes g t n k.gain } ∷ l)
    (choices_by_level-run g t r ks (omega arith))
    ∙ sym laid

-- ---- The level, one choice a turn

-- the level where n more of the gain g are left and t of them were taken
unfoldable pub levelling : ℕ → ℕ → ℕ → (ℕ → ℕ) → ℕ → ℕ → GainLevel
levelling zero n t c room sum = record { gain = 0; times = 0 }
levelling (suc g) n t c room sum = level_here n t (suc g) room sum (λ s. level_from g c room s)

pub levelling_start : (g : ℕ) (c : ℕ → ℕ) (room sum : ℕ) → level_from g c room sum ≡ levelling g (c g) 0 c room sum
unfolding levelling level_from
levelling_start zero c room sum = refl
levelling_start (suc g) c room sum = refl

pub levelling_none : (n t : ℕ) (c : ℕ → ℕ) (room sum : ℕ) → levelling 0 n t c room sum ≡ record { gain = 0; times = 0 }
unfolding levelling
levelling_none n t c room sum = refl

pub levelling_down : (g t : ℕ) (c : ℕ → ℕ) (room sum : ℕ) → 0 < g
    → levelling g 0 t c room sum ≡ levelling (g - 1) (c (g - 1)) 0 c room sum
unfolding levelling level_here
levelling_down zero t c room sum p = absurd (omega arith)
levelling_down (suc g) t c room sum p =
    let e : suc g - 1 ≡ g = omega arith in
    rw e (levelling_start g c room sum)

pub levelling_stop : (g n t : ℕ) (c : ℕ → ℕ) (room sum : ℕ) → 0 < g → 0 < n → sum ≤ room
    → levelling g n t c room sum ≡ record { gain = g; times = t }
unfolding levelling level_here pick
levelling_stop zero n t c room sum p q h = absurd (omega arith)
levelling_stop (suc g) zero t c room sum p q h = absurd (omega arith)
levelling_stop (suc g) (suc n) t c room sum p q h = rw (le-leb sum room h)

pub levelling_take : (g n t : ℕ) (c : ℕ → ℕ) (room sum : ℕ) → 0 < g → 0 < n → room < sum
    → levelling g n t c room sum ≡ levelling g (n - 1) (t + 1) c room (sum - g)
unfolding levelling level_here pick
levelling_take zero n t c room sum p q h = absurd (omega arith)
levelling_take (suc g) zero t c room sum p q h = absurd (omega arith)
levelling_take (suc g) (suc n) t c room sum p q h =
    let e : suc n - 1 ≡ n = omega arith in
    let f : t + 1 ≡ suc t = omega arith in
    rw (e, f, lt-leb sum room h)

-- ---- Which members a run takes

-- the members of a run, reduced, by the level that is found from what is kept of it
pub run_level : {K : ℕ} {run : List Child} {sums : Sums} → RunSums K run sums
    → run_of K run ≡ take_by_level (level_from sums.top (counts_of sums.counts) K sums.total) (as_members run)
unfolding run_of
run_level {K} {run} {sums} kept =
    reduce_level sums.top (counts_of sums.counts) K (as_members run)
    (record { sound = members_sound K run kept.good; below = kept.largest; counts = λ h p q. kept.counts_are h })
    ∙ ap (λ s. take_by_level (level_from sums.top (counts_of sums.counts) K s) (as_members run)) kept.total_is

-- one step back: the last child of a run, and how many at the level come before it
pub count_back : (g r : ℕ) (k : Child) (ks : List Child)
    → count_gain g (as_members (last_children (suc r) [] (k ∷ ks)))
    ≡ count_gain g (as_members (last_children r [] ks)) + pick (eqb k.gain g) 1 0
unfolding last_children as_member
count_back g r k ks =
    ap (count_gain g) (ap as_members (last_children-append r (k ∷ []) ks) ∙ members_snoc (last_children r [] ks) k)
    ∙ count_snoc g (as_members (last_children r [] ks)) (as_member k)

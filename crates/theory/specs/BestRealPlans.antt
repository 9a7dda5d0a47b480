-- Every plan of a chain that is within K, by its marks, is matched by a plan of the level in which each child
-- follows its best or its second plan: no more pages, and no more that stays. A run with a child that has two pages
-- or more too many is split around it.
-- Defines ChainMatched. Proves match_children. Assumes nothing.
use Prim.Native.Nat.{ℕ, zero, suc, ◌+◌, ◌-◌, ◌≤◌, ◌<◌}
use Rattle.std.specs.Prelude.{◌≡◌, refl, Bool, ◌&&◌, List, [], ◌∷◌, ◌++◌, length, drop}
use Rattle.std.proofs.Math.Bool.{true, false, and-eq-true_iff}
use Rattle.std.proofs.lemmas.Bool.{false≢true}
use Rattle.std.proofs.Common.{arith}
use Rattle.std.proofs.Math.ListN.{length-append}
use Rattle.model.specs.Table.{Chain, end, node}
use Rattle.model.specs.Steps.{Child, Choice, Entry, child_of, children_from, children_of, siblings_by}
use Rattle.theory.specs.PlanShape.{size, runs, allowed_mark, allowed, Weights, joined, weighed, AllWithin}
use Rattle.theory.specs.PlanShape.{EachWithin}
use Rattle.theory.specs.PlanWeighs.{all_within_left, all_within_right}
use Rattle.theory.specs.BestGreedy.{Offers, best, second}
use Rattle.theory.specs.BestLevel.{Fair, RunSoFar, a_run, Level, empty, stay, begin, go}
use Rattle.theory.specs.BestNodes.{best_entry, node_rest, node_least, children_fair}
use Rattle.theory.specs.BestLaid.{pages_below}

-- ---- One child

-- a plan of a child with e pages more than its best plan, and rest r, is no better than what the child offers
record NoWorse (k : Child) (e r : ℕ) : Type 0 where
  equal : e ≤ 0 → k.rest ≤ r
  onemore : e ≤ 1 → k.rest ≤ r + k.gain

-- so one of its offers matches it, or else it has two pages or more too many
data ChildMatched (k : Child) (e r : ℕ) : Type 0 where
  alike : {b : Bool} {e' r' : ℕ} → Offers k b e' r' → e' ≤ e → r' ≤ r → ChildMatched k e r
  two_more : 2 ≤ e → ChildMatched k e r

child_matched : (k : Child) (e r : ℕ) → k.gain ≤ k.rest → NoWorse k e r → ChildMatched k e r
child_matched k zero r g p = alike (best refl refl) (omega arith) (p.equal (omega arith))
child_matched k (suc zero) r g p = ask k.gain refl
  where
    ask : (v : ℕ) → k.gain ≡ v → ChildMatched k (suc zero) r
    ask zero e = alike (best refl refl) (omega arith) (omega (arith, p.onemore (omega arith)))
    ask (suc v) e =
        let back : k.rest - k.gain + k.gain ≡ k.rest = omega arith in
        let some : 1 ≤ k.gain = omega arith in
        alike (second refl some back) (omega arith) (omega (arith, p.onemore (omega arith)))
child_matched k (suc (suc e)) r g p = two_more (omega arith)

-- ---- The siblings so far

-- A plan of the level with n' pages and this run is ahead of a plan with n pages, and a run of weight y if the last
-- sibling is in one: it has fewer pages, or no more and its run, where that matters, is no heavier.
data Ahead (n y n' : ℕ) : Bool → RunSoFar → Type 0 where
  fewer : {after : Bool} {o : RunSoFar} → n' < n → Ahead n y n' after o
  closed : {o : RunSoFar} → n' ≤ n → Ahead n y n' false o
  lighter : {after : Bool} {y' : ℕ} → n' ≤ n → y' ≤ y → Ahead n y n' after (a_run y')

data SiblingsMatched (K : ℕ) (ks : List Child) (after : Bool) (n x y : ℕ) : Type 0 where
  siblings : {cs : List Choice} {n' x' : ℕ} {o : RunSoFar}
      → Level K ks cs n' x' o → x' ≤ x → Ahead n y n' after o → SiblingsMatched K ks after n x y

ahead_pages : {n y n' : ℕ} {after : Bool} {o : RunSoFar} → Ahead n y n' after o → n' ≤ n
ahead_pages (fewer h) = omega arith
ahead_pages (closed h) = h
ahead_pages (lighter h i) = h

module _ {K : ℕ} {k : Child} {ks : List Child} (f : Fair K (k ∷ ks)) where
  match_stays : {after : Bool} {n x y r : ℕ} (e : ℕ) → SiblingsMatched K ks after n x y → NoWorse k e r
      → SiblingsMatched K (k ∷ ks) false (n + e) (x + r) 0
  match_stays zero (siblings l i a) h =
      siblings (stay refl l) (omega (arith, h.equal (omega arith))) (closed (omega (arith, ahead_pages a)))
  match_stays (suc e) (siblings l i a) h =
      siblings (begin (best refl refl) f.0 refl l) (omega arith) (closed (omega (arith, ahead_pages a)))

  match_begins : {after : Bool} {n x y e r : ℕ} → SiblingsMatched K ks after n x y → ChildMatched k e r → r ≤ K
      → SiblingsMatched K (k ∷ ks) true (n + 1 + e) x r
  match_begins (siblings l i a) (alike o h j) w =
      siblings (begin o (omega arith) refl l) i (lighter (omega (arith, ahead_pages a)) j)
  match_begins (siblings l i a) (two_more h) w =
      siblings (begin (best refl refl) f.0 refl l) i (fewer (omega (arith, ahead_pages a)))

  match_continues : {n x y e r : ℕ} → SiblingsMatched K ks true n x y → ChildMatched k e r
      → y + r ≤ K → SiblingsMatched K (k ∷ ks) true (n + e) x (y + r)
  match_continues {y = y} {r = r} (siblings l i (fewer a)) (alike {r' = r'} o h j) w =
      let less : r' ≤ y + r = omega arith in
      siblings (begin o (omega arith) refl l) i (lighter (omega arith) less)
  match_continues (siblings l i (fewer a)) (two_more h) w =
      siblings (begin (best refl refl) f.0 refl l) i (fewer (omega arith))
  match_continues {y = y} {r = r} (siblings l i (lighter {y' = y'} a b)) (alike {r' = r'} o h j) w =
      let fits : y' + r' ≤ K = omega arith in
      let less : y' + r' ≤ y + r = omega arith in
      siblings (go o refl fits refl l) i (lighter (omega arith) less)
  match_continues (siblings l i (lighter a b)) (two_more h) w =
      siblings (begin (best refl refl) f.0 refl l) i (fewer (omega arith))

-- ---- A chain of siblings

-- a plan of the level with no more than n pages, beside those of the best plans, and no more than x that stays
pub record ChainMatched (K : ℕ) (ks : List Child) (below n x : ℕ) : Type 0 where
  pub choices : List Choice
  pub pages : ℕ
  pub sum : ℕ
  pub run : RunSoFar
  pub level : Level K ks choices pages sum run
  pub few : pages + below ≤ n
  pub light : sum ≤ x

chain_matched_more : {K p n x p' n' x' : ℕ} {ks : List Child} → ChainMatched K ks p n x → p' + n ≤ n' + p → x ≤ x'
    → ChainMatched K ks p' n' x'
chain_matched_more m h i =
    let l = m.level in
    record { choices = _; pages = m.pages; sum = m.sum; run = _; level = l; few = omega arith; light = omega arith }

-- a node whose children's plan begins p pages and leaves x
record KidPlan (K w : ℕ) (kids : Chain) (p x : ℕ) : Type 0 where
  more : ℕ
  counted : p ≡ (best_entry K w (children_of true K kids)).count + pages_below true K kids + more
  noworse : NoWorse (child_of true K w (children_of true K kids)) more (w + x)

kid_plan : {K w p x : ℕ} {kids : Chain} → Fair K (children_of true K kids) → w + x ≤ K
    → ChainMatched K (children_of true K kids) (pages_below true K kids) (0 + p) (0 + x)
    → KidPlan K w kids p x
kid_plan {K} {w} {p} {x} {kids} f h m =
    let ks : List Child = children_of true K kids in
    let e : Entry = best_entry K w ks in
    let c : (child_of true K w ks).rest ≡ e.rest = node_rest true K w ks in
    let b = node_least K w ks f (omega arith) m.level (omega (arith, m.light)) in
    record {
      more = p - (e.count + pages_below true K kids);
      counted = omega (arith, b.count, m.few);
      noworse =
          record {
            equal = λ i. omega (arith, b.rest (omega (arith, m.few)), m.light);
            onemore = λ i. omega (arith, b.gain (omega (arith, m.few)), m.light);
          };
    }

-- the run before a chain has room for what the chain carries to it
abbrev RunRoom : ℕ → Bool → ℕ → ℕ → Type 0
RunRoom K false y c = Unit {0}
RunRoom K true y c = y + c ≤ K

-- what a node's mark asks of its children and of the siblings after it, where all together is within K
record NodeParts (K w : ℕ) (a b : Weights) : Type 0 where
  own : w + a.stay ≤ K
  kids : AllWithin K a.pages
  next : AllWithin K b.pages
  stay_within : b.stay ≤ K

module _ {K : ℕ} (w : ℕ) (a b : Weights) where
  halves : w + a.stay ≤ K → AllWithin K (a.pages ++ b.pages) → b.stay ≤ K → NodeParts K w a b
  halves o h s =
      let left = all_within_left K a.pages b.pages h in
      let right = all_within_right K a.pages b.pages h in
      record { own = o; kids = left; next = right; stay_within = s }

  node_parts : (y k : ℕ) (after : Bool) → allowed_mark after k ≡ true → RunRoom K after y (joined k w a b).carry
      → AllWithin K (joined k w a b).pages → (joined k w a b).stay ≤ K → NodeParts K w a b
  unfolding allowed_mark joined AllWithin
  node_parts y zero after m r h s = halves (omega arith) h (omega arith)
  node_parts y (suc zero) after m r h s = halves (omega arith) h.1 s
  node_parts y (suc (suc zero)) false m r h s = absurd (false≢true m)
  node_parts y (suc (suc zero)) true m r h s = halves (omega arith) h s
  node_parts y (suc (suc (suc k))) after m r h s = absurd (false≢true m)

  -- One more sibling, of mark k, whose own plan has so many pages more than its best: `rest` matches the siblings
  -- after it.
  match_node : {n x y more after-below : ℕ} {kid : Child} {ks all : List Child} (below k : ℕ) (after : Bool)
      → Fair K (kid ∷ ks) → allowed_mark after k ≡ true → RunRoom K after y (joined k w a b).carry
      → AllWithin K (joined k w a b).pages → SiblingsMatched K ks after n x y → w + a.stay ≤ K
      → NoWorse kid more (w + a.stay) → length a.pages ≡ below + more
      → ((n' x' y' : ℕ) → SiblingsMatched K (kid ∷ ks) (runs k) n' x' y' → RunRoom K (runs k) y' b.carry
      → ChainMatched K all after-below (n' + length b.pages) (x' + b.stay))
      → ChainMatched K all (below + after-below) (n + length (joined k w a b).pages) (x + (joined k w a b).stay)
  unfolding allowed_mark runs joined AllWithin
  match_node {more = more} below zero after f m r h p w' c e rest =
      chain_matched_more (rest _ _ _ (match_stays f more p c) tt) (simp length-append (omega arith)) (omega arith)
  match_node below (suc zero) after f m r h p w' c e rest =
      chain_matched_more (rest _ _ _ (match_begins f p (child_matched _ _ _ f.1 c) w') h.0)
      (simp length-append (omega arith)) (omega arith)
  match_node below (suc (suc zero)) false f m r h p w' c e rest = absurd (false≢true m)
  match_node below (suc (suc zero)) true f m r h p w' c e rest =
      chain_matched_more (rest _ _ _ (match_continues f p (child_matched _ _ _ f.1 c) (omega arith)) (omega arith))
      (simp length-append (omega arith)) (omega arith)
  match_node below (suc (suc (suc k))) after f m r h p w' c e rest = absurd (false≢true m)

-- no sibling yet
match_none : (K : ℕ) → SiblingsMatched K [] false 0 0 0
match_none K = siblings (empty refl refl) (omega arith) (closed (omega arith))

chain_matched_end : {K n x y : ℕ} {ks : List Child} {after : Bool} → SiblingsMatched K ks after n x y
    → ChainMatched K ks 0 n x
chain_matched_end (siblings l i a) =
    let few = ahead_pages a in
    record { choices = _; pages = _; sum = _; run = _; level = l; few = omega arith; light = i }

match_chain : {K n x y : ℕ} (after : Bool) (c : Chain) (before : List Child) (ms : List ℕ)
    → EachWithin K c → Fair K before → SiblingsMatched K before after n x y
    → allowed after c ms ≡ true → AllWithin K (weighed c ms).pages → RunRoom K after y (weighed c ms).carry
    → (weighed c ms).stay ≤ K
    → ChainMatched K (children_from true K c before) (pages_below true K c) (n + length (weighed c ms).pages)
    (x + (weighed c ms).stay)
unfolding siblings_by EachWithin allowed weighed pages_below children_of
match_chain after end before ms e f m a h r s = chain_matched_more (chain_matched_end m) (omega arith) (omega arith)
match_chain after (node w l kids next) before [] e f m a h r s = absurd (false≢true a)
match_chain {K} {y = y} after (node w l kids next) before (k ∷ ms) e f m a h r s =
    let ns : List ℕ = drop (size kids) ms in
    let A : Weights = weighed kids ms in
    let B : Weights = weighed next ns in
    let both : (allowed_mark after k && allowed false kids ms ≡ true) × (allowed (runs k) next ns ≡ true) =
    (and-eq-true_iff _ _).0 a in
    let fine : (allowed_mark after k ≡ true) × (allowed false kids ms ≡ true) = (and-eq-true_iff _ _).0 both.0 in
    let t : NodeParts K w A B = node_parts w A B y k after fine.0 r h s in
    let q : KidPlan K w kids (length A.pages) A.stay =
    kid_plan (children_fair true K kids [] e.1 tt) (omega (arith, t.own))
    (match_chain false kids [] ms e.1 tt (match_none K) fine.1 t.kids tt (omega (arith, t.own))) in
    let more : List Child = child_of true K w (children_from true K kids []) ∷ before in
    let fair : Fair K more = children_fair true K (node w l kids end) before (e.0, e.1, tt) f in
    match_node w A B _ k after fair fine.0 r h m t.own q.noworse q.counted
    (λ n' x' y' u v. match_chain (runs k) next more ns e.2 fair u both.1 t.next v t.stay_within)

-- the plan of a node's children, by its marks
pub match_children : {K : ℕ} (c : Chain) (ms : List ℕ) → EachWithin K c → allowed false c ms ≡ true
    → AllWithin K (weighed c ms).pages → (weighed c ms).stay ≤ K
    → ChainMatched K (children_of true K c) (pages_below true K c) (length (weighed c ms).pages) (weighed c ms).stay
unfolding children_of
match_children {K} c ms e a h s =
    chain_matched_more (match_chain false c [] ms e tt (match_none K) a h tt s) (omega arith) (omega arith)

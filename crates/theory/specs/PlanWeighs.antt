-- The marks of a node, from the marks of its children and of the siblings after it: what they weigh is put together
-- from what these weigh. For any planner that lays marks from the root down.
-- Defines Weighs. Proves weighs_end, weighs_stays, weighs_begins, weighs_continues, node_page. Assumes nothing.
use Rattle.std.specs.Prelude.{ℕ, suc, ◌+◌, ◌≤◌, ◌≡◌, Bool, List, [], ◌∷◌, ◌++◌, length, get_or, drop}
use Rattle.std.proofs.Math.Path.{refl}
use Rattle.std.proofs.Math.Bool.{true, false}
use native.Mathlib.Omega.{arith}
use Rattle.std.proofs.Math.ListN.{length-append}
use Rattle.std.proofs.Common.{length-drop}
use Rattle.std.proofs.lemmas.List.{drop-append-le}
use Rattle.std.proofs.Math.Seq.{drop_at}
use Rattle.model.specs.Table.{Chain, end, node}
use Rattle.theory.specs.PlanShape.{size, runs, allowed_mark, allowed, joined, weighed, AllWithin}

weighed_front : (c : Chain) (ms ns : List ℕ) → size c ≤ length ms → weighed c (ms ++ ns) ≡ weighed c ms
unfolding size weighed
weighed_front end ms ns h = refl
weighed_front (node w l kids next) [] ns h = absurd (omega arith)
weighed_front (node w l kids next) (k ∷ ms) ns h =
    let kept : size next ≤ length (drop (size kids) ms) = simp length-drop (omega arith) in
    rw (
      weighed_front kids ms ns (omega arith),
      drop-append-le (size kids) ms ns (omega arith),
      weighed_front next (drop (size kids) ms) ns kept,
    )

allowed_front : (after : Bool) (c : Chain) (ms ns : List ℕ) → size c ≤ length ms
    → allowed after c (ms ++ ns) ≡ allowed after c ms
unfolding size allowed
allowed_front after end ms ns h = refl
allowed_front after (node w l kids next) [] ns h = absurd (omega arith)
allowed_front after (node w l kids next) (k ∷ ms) ns h =
    let kept : size next ≤ length (drop (size kids) ms) = simp length-drop (omega arith) in
    rw (
      allowed_front false kids ms ns (omega arith),
      drop-append-le (size kids) ms ns (omega arith),
      allowed_front (runs k) next (drop (size kids) ms) ns kept,
    )

all_within_append : (K : ℕ) (ps qs : List ℕ) → AllWithin K ps → AllWithin K qs → AllWithin K (ps ++ qs)
unfolding AllWithin
all_within_append K [] qs p q = q
all_within_append K (x ∷ ps) qs p q = (p.0, all_within_append K ps qs p.1 q)

pub all_within_left : (K : ℕ) (ps qs : List ℕ) → AllWithin K (ps ++ qs) → AllWithin K ps
unfolding AllWithin
all_within_left K [] qs h = tt
all_within_left K (p ∷ ps) qs h = (h.0, all_within_left K ps qs h.1)

pub all_within_right : (K : ℕ) (ps qs : List ℕ) → AllWithin K (ps ++ qs) → AllWithin K qs
unfolding AllWithin
all_within_right K [] qs h = h
all_within_right K (p ∷ ps) qs h = all_within_right K ps qs h.1

-- The marks ms of a chain are allowed, weigh this much for the parent's page and for the run before, and begin this
-- many pages, each within K.
pub record Weighs (K : ℕ) (after : Bool) (c : Chain) (ms : List ℕ) (stay carry pages : ℕ) : Type 0 where
  pub sized : length ms ≡ size c
  pub fine : allowed after c ms ≡ true
  pub stays_is : (weighed c ms).stay ≡ stay
  pub carry_is : (weighed c ms).carry ≡ carry
  pub pages_are : length (weighed c ms).pages ≡ pages
  pub within : AllWithin K (weighed c ms).pages

pub weighs_end : (K : ℕ) (after : Bool) → Weighs K after end [] 0 0 0
unfolding size allowed weighed AllWithin
weighs_end K after =
    record { sized = refl; fine = refl; stays_is = refl; carry_is = refl; pages_are = refl; within = tt }

module _ (w l : ℕ) (kids next : Chain) (ms ns : List ℕ) where
  node_sized : (k : ℕ) → length ms ≡ size kids → length ns ≡ size next
      → length (k ∷ (ms ++ ns)) ≡ size (node w l kids next)
  unfolding size
  node_sized k p q = simp length-append (omega arith)

  node_fine : (after : Bool) (k : ℕ)
      → allowed_mark after k ≡ true
      → length ms ≡ size kids
      → allowed false kids ms ≡ true
      → allowed (runs k) next ns ≡ true
      → allowed after (node w l kids next) (k ∷ (ms ++ ns)) ≡ true
  unfolding allowed
  node_fine after k m s p q = rw (m, allowed_front false kids ms ns (omega arith), p, drop_at ms ns (size kids) s) q

  pub node_weighed : (k : ℕ)
      → length ms ≡ size kids
      → weighed (node w l kids next) (k ∷ (ms ++ ns)) ≡ joined k w (weighed kids ms) (weighed next ns)
  unfolding weighed
  node_weighed k s = rw (weighed_front kids ms ns (omega arith), drop_at ms ns (size kids) s)

  -- the page that a node begins
  pub node_page : length ms ≡ size kids
      → get_or (weighed (node w l kids next) (1 ∷ (ms ++ ns))).pages 0 0
      ≡ w + (weighed kids ms).stay + (weighed next ns).carry
  unfolding joined
  node_page s = rw (node_weighed 1 s)

  node_within : (K : ℕ)
      → AllWithin K (weighed kids ms).pages
      → AllWithin K (weighed next ns).pages
      → AllWithin K ((weighed kids ms).pages ++ (weighed next ns).pages)
  node_within K p q = all_within_append K (weighed kids ms).pages (weighed next ns).pages p q

  pub weighs_stays : {K a ca pa b cb pb : ℕ} (after : Bool) → Weighs K false kids ms a ca pa
      → Weighs K false next ns b cb pb
      → Weighs K after (node w l kids next) (0 ∷ (ms ++ ns)) (w + a + b) 0 (pa + pb)
  unfolding allowed_mark runs joined
  weighs_stays {K} after p q =
      record {
        sized = node_sized 0 p.sized q.sized;
        fine = node_fine after 0 refl p.sized p.fine q.fine;
        stays_is = rw (node_weighed 0 p.sized) (omega arith);
        carry_is = rw (node_weighed 0 p.sized);
        pages_are = rw (node_weighed 0 p.sized) (simp length-append (omega arith));
        within = rw (node_weighed 0 p.sized) (node_within K p.within q.within);
      }

  pub weighs_begins : {K a ca pa b cb pb : ℕ} (after : Bool)
      → Weighs K false kids ms a ca pa
      → Weighs K true next ns b cb pb
      → w + a + cb ≤ K
      → Weighs K after (node w l kids next) (1 ∷ (ms ++ ns)) b 0 (suc (pa + pb))
  unfolding allowed_mark runs joined AllWithin
  weighs_begins {K} after p q h =
      record {
        sized = node_sized 1 p.sized q.sized;
        fine = node_fine after 1 refl p.sized p.fine q.fine;
        stays_is = rw (node_weighed 1 p.sized) q.stays_is;
        carry_is = rw (node_weighed 1 p.sized);
        pages_are = rw (node_weighed 1 p.sized) (simp length-append (omega arith));
        within = rw (node_weighed 1 p.sized) (omega arith, node_within K p.within q.within);
      }

  pub weighs_continues : {K a ca pa b cb pb : ℕ} → Weighs K false kids ms a ca pa → Weighs K true next ns b cb pb
      → Weighs K true (node w l kids next) (2 ∷ (ms ++ ns)) b (w + a + cb) (pa + pb)
  unfolding allowed_mark runs joined
  weighs_continues {K} p q =
      record {
        sized = node_sized 2 p.sized q.sized;
        fine = node_fine true 2 refl p.sized p.fine q.fine;
        stays_is = rw (node_weighed 2 p.sized) q.stays_is;
        carry_is = rw (node_weighed 2 p.sized) (omega arith);
        pages_are = rw (node_weighed 2 p.sized) (simp length-append (omega arith));
        within = rw (node_weighed 2 p.sized) (node_within K p.within q.within);
      }

-- What `model` says of pages cut and glued, as code makes it, entry by entry: a page copied from its front, a
-- neighbour's entries behind a page, and one entry through the parent. Over any type of child.
-- Assumes nothing.
use mathlib.Core.Path.{◌≡◌, refl, ap, ◌∙◌}
use mathlib.Core.List.{List, [], ◌∷◌, ◌++◌, append_assoc, append-nil}
use Prim.Native.Nat.{ℕ, zero, suc, ◌+◌, ◌≤◌, ◌<◌}
use native.Mathlib.Omega.{arith}
use lib.ListN.{length, take, drop, get_or, drop_of_length-le, get_or-append}
use lib.Seq.{take_all, take-append-le, drop-append-le, drop-cons, drop_at, drop-append-add, get_or-append-add}
use Rattle.model.specs.Basics.{ins, del}
use Rattle.model.specs.Tree.{Entry, Node, no_entry}
use Rattle.model.specs.Insert.{cut_left, cut_right}
use Rattle.model.specs.Mend.{glue}
use Rattle.page.specs.Node.{more, less}

module _ {A : Type 0} where
  ins-take : (n : ℕ) (l : List A) (d : A) → n < length l → take (suc n) l ≡ ins n (get_or l n d) (take n l)
  ins-take n [] d h = absurd (omega arith)
  ins-take zero (x ∷ l) d h = refl
  ins-take (suc n) (x ∷ l) d h = ap (λ (r : List A). x ∷ r) (ins-take n l d (omega arith))

  -- the first behind l
  take_behind : (n : ℕ) (l r : List A) (d : A) → length l ≡ n → 1 ≤ length r → take (suc n) (l ++ r) ≡ ins n (get_or r 0 d) l
  take_behind n [] [] d e h = absurd (omega arith)
  take_behind zero [] (x ∷ r) d e h = refl
  take_behind (suc n) [] (x ∷ r) d e h = absurd (omega arith)
  take_behind zero (y ∷ l) r d e h = absurd (omega arith)
  take_behind (suc n) (y ∷ l) r d e h = ap (λ (s : List A). y ∷ s) (take_behind n l r d (omega arith) h)

  del-last : (n : ℕ) (l : List A) → length l ≡ suc n → del n l ≡ take n l
  del-last n l e = rw (drop_of_length-le l {i = suc n} (omega arith)) (append-nil (take n l))

  drop-last : (n : ℕ) (l : List A) (d : A) → length l ≡ suc n → drop n l ≡ get_or l n d ∷ []
  drop-last n l d e = drop-cons l n d (omega arith) ∙ ap (λ (r : List A). get_or l n d ∷ r) (drop_of_length-le l {i = suc n} (omega arith))

  pub at-behind : (l r : List A) (j at : ℕ) (d : A) → length l + j ≡ at → get_or (l ++ r) at d ≡ get_or r j d
  at-behind l r j at d e = rw (← e) (get_or-append-add l r j d)

  pub ins-behind : (n : ℕ) (x : A) (l r : List A) → length l ≡ n → ins n x l ++ r ≡ l ++ x ∷ r
  ins-behind n x l r e = rw (take_all n l (omega arith), drop_of_length-le l {i = n} (omega arith)) (append_assoc l (x ∷ []) r)

  drop-behind : (l r : List A) (j at : ℕ) → length l + j ≡ at → drop at (l ++ r) ≡ drop j r
  drop-behind l r j at e = rw (← e) (drop-append-add l r j)

-- ---- a page copied from its front

module _ {S : Type 0} (d : S) (y : Node S) (forks : length y.children ≡ suc (length y.own)) where
  pub cut-one : 1 ≤ length y.own → (take 1 y.own ≡ get_or y.own 0 no_entry ∷ []) × (take 2 y.children ≡ get_or y.children 0 d ∷ get_or y.children 1 d ∷ [])
  cut-one h =
      (ins-take 0 y.own no_entry h, ins-take 1 y.children d (omega arith) ∙ ap (ins 1 (get_or y.children 1 d)) (ins-take 0 y.children d (omega arith)))

  pub cut-grows : (n : ℕ) → n < length y.own → cut_left (suc n) y ≡ more n (get_or y.own n no_entry) (suc n) (get_or y.children (suc n) d) (cut_left n y)
  cut-grows n h = rw (ins-take n y.own no_entry h, ins-take (suc n) y.children d (omega arith))

  pub cut_all : (n : ℕ) → length y.own ≤ n → cut_left n y ≡ y
  cut_all n h = rw (take_all n y.own h, take_all (suc n) y.children (omega arith))

-- ---- neighbours l and r, and e between them

module _ {S : Type 0} (d : S) (l : Node S) (e : Entry) (r : Node S) (forks : length l.children ≡ suc (length l.own)) where
  -- l has n + 1 entries, and its last goes up; e comes down to r, with l's last child
  module _ (n : ℕ) (many : length l.own ≡ suc n) where
    pub give-left : cut_left n (glue l e r) ≡ less n (suc n) l
    give-left =
        rw (
          take-append-le n l.own (e ∷ r.own) (omega arith),
          take-append-le (suc n) l.children r.children (omega arith),
          del-last n l.own many,
          del-last (suc n) l.children (omega arith),
        )

    pub give-up : get_or (glue l e r).own n no_entry ≡ get_or l.own n no_entry
    give-up = get_or-append l.own (e ∷ r.own) no_entry n (omega arith)

    pub give-right : cut_right r.page n (glue l e r) ≡ more 0 e 0 (get_or l.children (suc n) d) r
    give-right =
        rw (
          drop_at l.own (e ∷ r.own) (suc n) many,
          drop-append-le (suc n) l.children r.children (omega arith),
          drop-last (suc n) l.children d (omega arith),
        )

  -- e comes down to l, with r's first child; r's first entry goes up
  module _ (n : ℕ) (many : length l.own ≡ n) where
    pub get_left : 1 ≤ length r.children → cut_left (suc n) (glue l e r) ≡ more n e (suc n) (get_or r.children 0 d) l
    get_left h =
        rw (take_behind n l.own (e ∷ r.own) no_entry many (omega arith), take_behind (suc n) l.children r.children d (omega arith) h)

    pub get-up : get_or (glue l e r).own (suc n) no_entry ≡ get_or r.own 0 no_entry
    get-up = at-behind l.own (e ∷ r.own) 1 (suc n) no_entry (omega arith)

    pub get-right : cut_right r.page (suc n) (glue l e r) ≡ less 0 0 r
    get-right =
        rw (
          drop-behind l.own (e ∷ r.own) 2 (suc (suc n)) (omega arith),
          drop-behind l.children r.children 1 (suc (suc n)) (omega arith),
        )

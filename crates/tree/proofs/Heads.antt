-- Words of the head stored: neither the map nor a page changes, and the head's other words are as they were. The root's
-- two words, 3 and 4: a new root, and a root that is freed.
-- Assumes nothing.
use mathlib.Core.Path.{◌≡◌, refl, sym, ap, ◌∙◌, subst, subst₂}
use mathlib.Core.Logic.{◌≢◌}
use mathlib.Core.List.{List, [], ◌∷◌}
use Prim.Native.Nat.{ℕ, suc, ◌+◌, ◌-◌, ◌*◌, ◌≤◌, ◌<◌}
use native.Mathlib.Numerals.{add-one}
use native.Mathlib.Omega.{arith}
use lib.ListN.{length, take, drop, set, length-set}
use lib.Seq.{drop-drop, drop-set-lt, get_or-set_same, get_or-set_other}
use Rattle.std.specs.Prelude.{Result, Ok, Err, Some, None, Option}
use Rattle.model.specs.Layout.{head_words, page_words, map_words, first_word, word, today}
use Rattle.model.specs.PageMap.{map_at}
use Rattle.model.specs.Tree.{Entry}
use Rattle.model.specs.Page.{count_of, page_at}
use Rattle.model.specs.Standing.{Holds}
use Rattle.pagemap.specs.Bits.{clear_bit}
use Rattle.pagemap.specs.Lowest.{lowest_of, took}
use Rattle.page.specs.Node.{alone}
use Rattle.lend.specs.Pages.{most, Inside, OnlyPages, page_in, map_in}
use Rattle.lend.specs.Touches.{MapBecomes}
use Rattle.page.specs.declared.Unsound.{Unsound}
use Rattle.tree.specs.Search.{unsound, below_of}
use Rattle.tree.specs.Insert.{frees_in, Rooted, Tops, NewRoots}
use Rattle.tree.specs.Remove.{Lowered, Lowers}
use Rattle.model.proofs.Cases.{never}
use Rattle.pagemap.proofs.Taking.{lowest-is}
use Rattle.lend.proofs.Touching.{only-map, only-word, touches-word}
use Rattle.tree.proofs.Searching.{no-page}

-- ---- a store in the head

-- no word behind the head is changed
pub record HeadOnly (w w' : List ℕ) : Type 0 where
  pub long : length w' ≡ length w
  pub rest : drop head_words w' ≡ drop head_words w

pub head-map : {w w' : List ℕ} → HeadOnly w w' → map_in w' ≡ map_in w
unfolding map_at
head-map c = ap (take (map_words today)) c.rest

pub head-page : {w w' : List ℕ} → HeadOnly w w' → (p : ℕ) → page_in w' p ≡ page_in w p
unfolding page_at
head-page {w} {w'} c p =
    let n : ℕ = map_words today + page_words today * p in
    let e : first_word today p ≡ head_words + n = omega arith in
    ap (take (page_words today))
    (ap (λ (k : ℕ). drop k w') e ∙ sym (drop-drop n head_words w') ∙ ap (drop n) c.rest ∙ drop-drop n head_words w ∙ ap (λ (k : ℕ). drop k w) (sym e))

pub head-then : {w w₁ w₂ : List ℕ} → HeadOnly w w₁ → HeadOnly w₁ w₂ → HeadOnly w w₂
head-then c d = record { long = d.long ∙ c.long; rest = d.rest ∙ c.rest }

module _ (w : List ℕ) (i v : ℕ) where
  pub head-stored : i < head_words → HeadOnly w (set w i v)
  head-stored h = record { long = length-set w i v; rest = drop-set-lt head_words w i v h }

  -- the word stored, and the others
  pub stored-word : i < length w → word (set w i v) i ≡ v
  stored-word h = get_or-set_same w i v 0 h

  pub other_word : (j : ℕ) → j ≢ i → word (set w i v) j ≡ word w j
  other_word j n = get_or-set_other w i j v 0 n

-- ---- words 3 and 4

-- what leaves the head alone may come before or after
pub rooted-then : {r h : ℕ} {w w₁ w₂ : List ℕ} → Rooted r h w w₁ → ((i : ℕ) → i < head_words → word w₂ i ≡ word w₁ i) → Rooted r h w w₂
rooted-then c same = record {
  root = same 3 (omega arith) ∙ c.root;
  levels = same 4 (omega arith) ∙ c.levels;
  others = λ i h n m. same i h ∙ c.others i h n m;
}

pub then-rooted : {r h : ℕ} {w w₁ w₂ : List ℕ} → ((i : ℕ) → i < head_words → word w₁ i ≡ word w i) → Rooted r h w₁ w₂ → Rooted r h w w₂
then-rooted same c = record { root = c.root; levels = c.levels; others = λ i h n m. c.others i h n m ∙ same i h }

-- the words with r and h stored there
abbrev pub rooted_as : ℕ → ℕ → List ℕ → List ℕ
rooted_as r h w = set (set w 3 r) 4 h

module _ (w : List ℕ) (r h : ℕ) where
  pub rooted-head : HeadOnly w (rooted_as r h w)
  rooted-head = head-then (head-stored w 3 r (omega arith)) (head-stored (set w 3 r) 4 h (omega arith))

  pub rooted-stored : head_words ≤ length w → Rooted r h w (rooted_as r h w)
  rooted-stored b = record {
    root = other_word (set w 3 r) 4 h 3 (omega arith) ∙ stored-word w 3 r (omega arith);
    levels = stored-word (set w 3 r) 4 h (omega (arith, length-set w 3 r));
    others = λ i _ n m. other_word (set w 3 r) 4 h i m ∙ other_word w 3 r i n;
  }

-- ---- a new root

-- the lowest free page lies inside
pub lowest-inside : (w w' : List ℕ) (q : ℕ) → lowest_of (frees_in w) ≡ Some q → length w' ≡ length w → Inside q w'
lowest-inside w w' q first long = omega (arith, lowest-is (map_in w) _ q first)

module _ (levels : ℕ) (e : Entry) (l r : ℕ) {w w₁ : List ℕ} where
  -- no page is free
  pub roots-none : {a : Option ℕ} → a ≡ lowest_of (frees_in w) → a ≡ None → MapBecomes (took (map_in w) a) w w₁ → NewRoots levels e l r w w₁
  roots-none first none m = record {
    long = m.keeps.long;
    count = touches-word m.keeps 2 (omega arith);
    tops = λ q is. never (cc);
  }

  -- page q is taken, then written, and then named by the head
  pub roots-done : {w₂ : List ℕ} {a : Option ℕ} (q : ℕ) → head_words ≤ length w → a ≡ lowest_of (frees_in w) → a ≡ Some q → MapBecomes (took (map_in w) a) w w₁
      → Holds most levels (alone e l r) (page_in w₂ q) → OnlyPages (q ∷ []) w₁ w₂ → NewRoots levels e l r w (rooted_as (q + 1) (levels + 1) w₂)
  roots-done {w₂} {a} q b first is m holds o =
      let long : length w₂ ≡ length w = o.long ∙ m.keeps.long in
      let w₃ : List ℕ = rooted_as (q + 1) (levels + 1) w₂ in
      let head : HeadOnly w₂ w₃ = rooted-head w₂ (q + 1) (levels + 1) in
      let same : (i : ℕ) → i < head_words → word w₂ i ≡ word w i = λ i h. only-word o i h ∙ touches-word m.keeps i h in
      let rooted : Rooted (q + 1) (levels + 1) w w₃ = then-rooted same (rooted-stored w₂ (q + 1) (levels + 1) (omega arith)) in
      let tops : Tops q levels e l r w w₃ = record {
        holds = rw (head-page head q) holds;
        rooted = subst₂ (λ (x y : ℕ). Rooted x y w w₃) (add-one q) (add-one levels) rooted;
        map = head-map head ∙ only-map o ∙ m.map ∙ ap (took (map_in w)) is;
        others = λ p n. head-page head p ∙ o.others p (n, tt) ∙ m.keeps.others p tt;
      } in
      record {
        long = head.long ∙ long;
        count = rooted.others 2 (omega arith) (omega arith) (omega arith);
        tops = λ p here. let z : q ≡ p = cc in subst (λ (x : ℕ). Tops x levels e l r w w₃) z tops;
      }

-- ---- a root that is freed

pub lowered : {w w' : List ℕ} (r h old : ℕ) → head_words ≤ length w
    → MapBecomes (clear_bit (map_in (rooted_as r h w)) old) (rooted_as r h w) w' → Lowered r h old w w'
lowered {w} {w'} r h old b m =
    let head : HeadOnly w (rooted_as r h w) = rooted-head w r h in
    record {
      rooted = rooted-then (rooted-stored w r h b) (touches-word m.keeps);
      map = m.map ∙ ap (λ (l : List ℕ). clear_bit l old) (head-map head);
      others = λ p. m.keeps.others p tt ∙ head-page head p;
    }

module _ (w : List ℕ) (old levels : ℕ) where
  pub lowers-not : 1 ≤ count_of (page_in w old) → Lowers old levels w w
  lowers-not some = record {
    long = refl;
    count = refl;
    stays = λ _. refl;
    empties = λ none _. absurd (omega arith);
    lowers = λ none _ c _. absurd (omega arith);
  }

  pub lowers-unsound : {a : Result ℕ Unsound} → levels ≢ 1 → a ≡ below_of w old 0 → a ≡ Err unsound → Lowers old levels w w
  lowers-unsound two is none = record {
    long = refl;
    count = refl;
    stays = λ _. refl;
    empties = λ _ one. absurd (two one);
    lowers = λ _ _ c here. no-page none (is ∙ here);
  }

  pub lowers-done : {w' : List ℕ} (r h : ℕ) → count_of (page_in w old) ≡ 0 → head_words ≤ length w → MapBecomes (clear_bit (map_in (rooted_as r h w)) old) (rooted_as r h w) w'
      → (levels ≡ 1 → (r ≡ 0) × (h ≡ 0)) → (2 ≤ levels → (c : ℕ) → below_of w old 0 ≡ Ok c → (r ≡ suc c) × (h ≡ levels - 1)) → Lowers old levels w w'
  lowers-done {w'} r h none b m one more =
      let done : Lowered r h old w w' = lowered r h old b m in
      let to : (x y : ℕ) → (r ≡ x) × (h ≡ y) → Lowered x y old w w' = λ x y e. subst₂ (λ (x y : ℕ). Lowered x y old w w') e.0 e.1 done in
      record {
        long = m.keeps.long ∙ (rooted-head w r h).long;
        count = done.rooted.others 2 (omega arith) (omega arith) (omega arith);
        stays = λ some. absurd (omega arith);
        empties = λ _ e. to 0 0 (one e);
        lowers = λ _ l c here. to (suc c) (levels - 1) (more l c here);
      }

-- Pages and the map changed one after the other: which pages may have changed, and that head and other pages are as
-- they were.
-- Assumes nothing.
use mathlib.Core.Path.{◌≡◌, refl, sym, ap, ◌∙◌}
use mathlib.Core.Logic.{◌≢◌}
use mathlib.Core.List.{List, ◌++◌}
use Prim.Native.Nat.{ℕ, ◌+◌, ◌≤◌, ◌<◌, ◌*◌}
use native.Mathlib.Omega.{arith}
use lib.ListN.{length, take, drop_of_length-le, drop}
use lib.Seq.{take-take}
use Rattle.model.specs.Basics.{All}
use Rattle.model.specs.Layout.{head_words, page_words, map_words, first_word, word, pages_in, today}
use Rattle.model.specs.PageMap.{map_at}
use Rattle.model.specs.Page.{page_at}
use Rattle.page.specs.Runs.{part, with_run, Changed}
use Rattle.lend.specs.Pages.{OnlyPages, page_in, map_in}
use Rattle.lend.specs.Touches.{Touches, MapBecomes, Sized}
use Rattle.model.proofs.Basics.{all_left, all_right, front-word}
use Rattle.model.proofs.Lawful as lawful
use Rattle.page.proofs.Parts.{changed, part_low, part-high, length_part}

pub touches_none : (ps : List ℕ) {w w' : List ℕ} → w' ≡ w → Touches ps w w'
touches_none ps e = record { long = ap length e; head = ap (take head_words) e; others = λ q h. ap (λ (l : List ℕ). page_in l q) e }

pub touches-then : {ps qs w w₁ w₂ : List ℕ} → Touches ps w w₁ → Touches qs w₁ w₂ → Touches (ps ++ qs) w w₂
touches-then {ps} {qs} c d = record {
  long = d.long ∙ c.long;
  head = d.head ∙ c.head;
  others = λ q h. d.others q (all_right (λ p. q ≢ p) ps qs h) ∙ c.others q (all_left (λ p. q ≢ p) ps qs h);
}

pub touches-wider : {ps w w' : List ℕ} (qs : List ℕ) → Touches ps w w' → ((q : ℕ) → All (λ p. q ≢ p) qs → All (λ p. q ≢ p) ps) → Touches qs w w'
touches-wider qs c f = record { long = c.long; head = c.head; others = λ q h. c.others q (f q h) }

-- ---- what stands in front is as it was

-- the words in front of the pages hold the head
pub front-head : (w w' : List ℕ) → take (first_word today 0) w' ≡ take (first_word today 0) w → take head_words w' ≡ take head_words w
front-head w w' e = sym (take-take head_words (first_word today 0) w' (omega arith)) ∙ ap (take head_words) e ∙ take-take head_words (first_word today 0) w (omega arith)

pub touches-word : {ps w w' : List ℕ} → Touches ps w w' → (i : ℕ) → i < head_words → word w' i ≡ word w i
touches-word {w} {w'} c = front-word head_words w w' c.head

-- pages changed, and nothing in front of them
pub only-touches : {ps w w' : List ℕ} → OnlyPages ps w w' → Touches ps w w'
only-touches {ps} {w} {w'} c = record { long = c.long; head = front-head w w' c.front; others = c.others }

pub only-word : {ps w w' : List ℕ} → OnlyPages ps w w' → (i : ℕ) → i < head_words → word w' i ≡ word w i
only-word c = touches-word (only-touches c)

-- all the words behind are a change of them: `page`'s `Parts` has the laws of such a change
pub only-map : {ps w w' : List ℕ} → OnlyPages ps w w' → map_in w' ≡ map_in w
unfolding map_at
only-map {w} {w'} c =
    let a : ℕ = first_word today 0 in
    let high : drop (a + length w) w' ≡ drop (a + length w) w =
    drop_of_length-le w' {i = a + length w} (omega (arith, c.long)) ∙ sym (drop_of_length-le w {i = a + length w} (omega arith)) in
    let change : Changed a (length w) (part a (length w) w') w w' = record { low = c.front; here = refl; high = high; long = c.long } in
    part_low change head_words (map_words today) (omega arith)

-- ---- the map lent

-- the map as it is lent, and the pool with ys in its place
abbrev pub lent_map : List ℕ → List ℕ
lent_map w = part head_words (map_words today) w

pub map-long : (w : List ℕ) → first_word today 0 ≤ length w → length (lent_map w) ≡ map_words today
map-long w h = length_part head_words (map_words today) w h

-- it has a bit for each page
pub map-bits : (w : List ℕ) → Sized w → pages_in today (length w) ≤ 64 * length (map_in w)
map-bits w s = lawful.map-bits today lawful.today-lawful w s.0 (omega arith)

-- neither head nor pages change, and the map is what came back, m
pub map_back : (w ys m : List ℕ) → first_word today 0 ≤ length w → length ys ≡ length (lent_map w) → ys ≡ m → MapBecomes m w (with_run head_words (map_words today) ys w)
unfolding map_at page_at
map_back w ys m inside sized e =
    let c : Changed head_words (map_words today) ys w (with_run head_words (map_words today) ys w) = changed refl (sized ∙ map-long w inside) inside in
    record { map = c.here ∙ e; keeps = record { long = c.long; head = c.low; others = λ q _. part-high c (first_word today q) (page_words today) (omega arith) } }

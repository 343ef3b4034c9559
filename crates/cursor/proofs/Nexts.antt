-- Laws of the entry after the gap of a sound pool: where it stands it is the model's next entry, where there is none
-- the gap is at the end, and a key fits between the gap's neighbours in code exactly where the model says so. And what
-- is sought by the gap's aim is that entry, with the gap's path.
-- Assumes nothing.
use mathlib.Core.Path.{◌≡◌, refl, sym, ap, ap₂, ◌∙◌}
use mathlib.Core.Bool.{Bool}
use mathlib.Core.Option.{none, some}
use mathlib.Core.List.{List, [], ◌∷◌}
use Prim.Native.Nat.{ℕ, ◌<◌}
use native.Mathlib.Omega.{arith}
use lib.ListN.{length, get_or}
use borrow.Author.Tests.{eq-eqb, ne_eqb}
use Rattle.std.specs.Prelude.{Ok, Some, None, Option}
use Rattle.model.specs.Basics.{every}
use Rattle.model.specs.Head.{open_word, after_word}
use Rattle.model.specs.Tree.{no_entry, held}
use Rattle.model.specs.Page.{entry_in}
use Rattle.model.specs.Entries.{above, under, key_fits}
use Rattle.model.specs.Pool.{held_by, pool_of, gap_by}
use Rattle.model.specs.Sound.{Sound}
use Rattle.model.specs.CursorCalls.{next_of, prev_of}
use Rattle.lend.specs.Pages.{most, page_in}
use Rattle.tree.specs.declared.search.Aim.{Aim}
use Rattle.tree.specs.declared.steps.Spot.{Spot}
use Rattle.tree.specs.Search.{Seeks}
use Rattle.tree.specs.Sits.{PathOf}
use Rattle.tree.specs.Steps.{spot_of, SpotAfter, spot}
use Rattle.cursor.specs.Ahead.{spot_ahead, FindsAhead, SeeksAhead, above_named, under_ahead, fits_at}
use Rattle.cursor.specs.Gap.{aim_of}
use Rattle.model.proofs.Cases.{either-eq}
use Rattle.model.proofs.Head.{head-facts}
use Rattle.model.proofs.Basics.{next-some, next-none}
use Rattle.model.proofs.Right.{Right, sound-right}
use Rattle.tree.proofs.Sitting.{sound-sits}
use Rattle.tree.proofs.Writing.{spot-there, spot_past}
use Rattle.cursor.proofs.Gaps.{aim-gap, gap-start, gap-named}

-- ---- the neighbours of the gap

-- the entry after the gap, at slot s of page p
pub record Next (w : List ℕ) (p s : ℕ) : Type 0 where
  pub there : gap_by (pool_of w) < length (held_by (pool_of w))
  pub spot : spot_of (pool_of w).whole.levels (pool_of w).whole.tree (gap_by (pool_of w)) ≡ Some (spot p s)
  pub entry : entry_in most (page_in w p) s ≡ get_or (held_by (pool_of w)) (gap_by (pool_of w)) no_entry
  pub next : next_of (pool_of w) ≡ some (entry_in most (page_in w p) s)

module _ (w : List ℕ) (sound : Sound w) where
  abbrev right : Right (pool_of w)
  right = sound-right w sound

  spot-next : (p s : ℕ) → spot_ahead w ≡ Some (spot p s) → Next w p s
  unfolding spot_ahead
  spot-next p s e =
      let es = held_by (pool_of w) in
      let g = gap_by (pool_of w) in
      let at = spot-there w sound g right.within e in
      record { there = at.0; spot = e; entry = at.1; next = next-some es g no_entry at.0 ∙ ap some (sym at.1) }

  spot-none : spot_ahead w ≡ None → next_of (pool_of w) ≡ none
  unfolding spot_ahead
  spot-none e = next-none (held_by (pool_of w)) (gap_by (pool_of w)) (spot_past w sound (gap_by (pool_of w)) right.within e)

  -- the key that the gap names is that of the entry before it
  above-named : (k : ℕ) → above_named w k ≡ above (prev_of (pool_of w)) k
  above-named k =
      either-eq (after_word w) 0
      (λ z. rw (eq-eqb (after_word w) 0 z, gap-start w sound z))
      (λ n.
      let f = head-facts w sound.head in
      let opened : open_word w ≡ 1 = either-eq (open_word w) 0 (λ z. absurd (n (sound.closed z).0)) (λ m. omega (arith, f.opened)) in
      let (g, named) = gap-named w sound opened (omega (arith, f.after)) in
      rw (ne_eqb (after_word w) 0 n, named.at, next-some (held_by (pool_of w)) g no_entry named.there, named.key))

-- ---- what is found there

module _ {w : List ℕ} {x : Option Spot} (finds : FindsAhead w (Ok x)) (sound : Sound w) where
  spot_is : spot_ahead w ≡ x
  spot_is = cc (finds.exact sound)

  pub ahead-entry : {p s : ℕ} → x ≡ Some (spot p s) → Next w p s
  ahead-entry {p} {s} e = spot-next w sound p s (spot_is ∙ e)

  pub ahead-end : x ≡ None → next_of (pool_of w) ≡ none
  ahead-end e = spot-none w sound (spot_is ∙ e)

  under_next : (k : ℕ) (y : Option Spot) → x ≡ y → under_ahead w y k ≡ under (next_of (pool_of w)) k
  under_next k (Some y) e = rw (ahead-entry e).next
  under_next k None e = rw (ahead-end e)

  pub ahead-fits : (k : ℕ) → fits_at w x k ≡ key_fits k (gap_by (pool_of w)) (held_by (pool_of w))
  unfolding key_fits
  ahead-fits k = ap₂ (λ (a b : Bool). every (a ∷ b ∷ [])) (above-named w sound k) (under_next k x refl)

-- ---- what is sought

-- the spot after the path's gap
pub seeks-spot : {w ps ss ps' ss' : List ℕ} {aim : Aim} {x : Option Spot} → aim ≡ aim_of w → Seeks w aim ps ss ps' ss' (Ok tt)
    → SpotAfter w ps' ss' x → SeeksAhead w ps ss ps' ss' (Ok x)
unfolding spot_ahead held
seeks-spot {w} {ps' = ps'} {ss' = ss'} from path after =
    let way : Sound w → PathOf (pool_of w).whole.levels (pool_of w).whole.tree (gap_by (pool_of w)) ps' ss' =
    λ sound. rw (from, aim-gap w sound) at (path.path sound) in
    record {
      pages = path.pages;
      slots = path.slots;
      finds = record {
        within = λ y q x e. after.within x (cc);
        exact = λ sound.
            ap Ok (after.exact 1 (pool_of w).whole.levels (pool_of w).whole.tree (gap_by (pool_of w)) (sound-sits w sound) (sound-right w sound).within (way sound));
      };
      inside = λ y q. path.inside refl;
      path = way;
    }

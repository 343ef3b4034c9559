-- One entry by its key in a sound pool: the entry after the key's gap is the key's where the key is there. So what is
-- read at that spot tells whether it is, and its value; and from where the key was sought follows what is added or
-- struck.
-- Assumes nothing.
use mathlib.Core.Path.{◌≡◌, refl, sym, ap, ◌∙◌}
use mathlib.Core.Bool.{true, false}
use mathlib.Core.Logic.{◌≢◌, inl}
use mathlib.Core.Option.{none, some}
use mathlib.Core.List.{List}
use Prim.Native.Nat.{ℕ, ◌≤◌, ◌<◌}
use native.Mathlib.Omega.{arith}
use lib.Dec.{ltb, eqb}
use Rattle.std.specs.Prelude.{Some, None, Ok, Err, Option, ⊤, Result}
use lib.ListN.{length, get_or}
use borrow.Author.Tests.{lt-ltb, eq-eqb, ne_eqb}
use Rattle.model.specs.Tree.{entry, no_entry, held}
use Rattle.model.specs.Page.{entry_in}
use Rattle.model.specs.Entries.{shut}
use Rattle.model.specs.Pool.{held_by, pool_of}
use Rattle.model.specs.Sound.{Sound}
use Rattle.model.specs.Source.{view, member}
use Rattle.page.specs.declared.Unsound.{Unsound}
use Rattle.lend.specs.Pages.{most, page_in}
use Rattle.tree.specs.declared.search.Aim.TheVariants.{Before}
use Rattle.tree.specs.declared.steps.Spot.{Spot}
use Rattle.tree.specs.Search as search
use Rattle.tree.specs.Steps.{SpotAfter, spot}
use Rattle.tree.specs.Insert.{Inserts, inserted_by, full}
use Rattle.tree.specs.Remove.{Removes}
use Rattle.map.specs.declared.refusal.Refusal.TheVariants as reason
use Rattle.map.specs.Entry.{gap_for, full_for, spot_for, Finds, SeeksKey, Adds, Strikes}
use Rattle.model.proofs.Cases.{either, never}
use Rattle.model.proofs.Entries.{gap-le, has-at, has_key, lookup-at}
use Rattle.model.proofs.Right.{Right, sound-right}
use Rattle.tree.proofs.Sitting.{sound-sits}
use Rattle.tree.proofs.Writing.{spot-there, spot_past}
use Rattle.tree.specs.declared.insert.Full.{Full}
use Rattle.tree.specs.Search.{unsound}

-- ---- what is read there

gap-inside : (w : List ℕ) (k : ℕ) → gap_for k w ≤ length (held_by (pool_of w))
gap-inside w k = gap-le (λ x. ltb x k) (held_by (pool_of w))

module _ (w : List ℕ) (k : ℕ) (sound : Sound w) where
  abbrev right : Right (pool_of w)
  right = sound-right w sound

  pub absent-value : member w k ≡ false → view w k ≡ none
  absent-value n = lookup-at k (held_by (pool_of w)) right.rising ∙ rw n

  -- where the gap has a spot it has an entry
  gap-entry : (p s : ℕ) → spot_for k w ≡ Some (spot p s) → gap_for k w < length (held_by (pool_of w))
  unfolding spot_for
  gap-entry p s e = (spot-there w sound (gap_for k w) (gap-inside w k) e).0

  -- and where it has none the key is absent
  end-absent : spot_for k w ≡ None → member w k ≡ false
  unfolding spot_for
  end-absent e =
      either (member w k)
      (λ y. absurd (omega (arith, spot_past w sound (gap_for k w) (gap-inside w k) e, (has_key k (held_by (pool_of w)) right.rising y).0)))
      (λ n. n)

  -- the entry read at the spot is the one after the gap
  module _ (p s key v : ℕ) (at : spot_for k w ≡ Some (spot p s)) (read : entry key v ≡ entry_in most (page_in w p) s) where
    spot-read : entry key v ≡ get_or (held_by (pool_of w)) (gap_for k w) no_entry
    unfolding spot_for
    spot-read = read ∙ (spot-there w sound (gap_for k w) (gap-inside w k) at).1

    -- so its key tells whether the key is there
    spot-key : member w k ≡ eqb key k
    spot-key =
        let b = gap-entry p s at in
        has-at k (held_by (pool_of w)) right.rising ∙ rw (lt-ltb (gap_for k w) (length (held_by (pool_of w))) b, ← spot-read)

    -- and its value is the key's
    pub spot-value : member w k ≡ true → view w k ≡ some v
    spot-value y = lookup-at k (held_by (pool_of w)) right.rising ∙ rw (y, ← spot-read)

-- ---- where the key was sought

module _ {w ps ss ps' ss' : List ℕ} {k : ℕ} (path : search.Seeks w (Before k) ps ss ps' ss' (Ok tt)) where
  module _ {x : Option Spot} (after : SpotAfter w ps' ss' x) where
    seeks-by : {r : Option Spot} → Finds w k (Ok r) → SeeksKey w k ps ss ps' ss' (Ok r)
    seeks-by finds = record { pages = path.pages; slots = path.slots; finds = finds; inside = λ x q. path.inside refl; path = path.path }

    seeks-absent : (Sound w → member w k ≡ false) → SeeksKey w k ps ss ps' ss' (Ok None)
    seeks-absent absent = seeks-by (record { here = λ p s q. never (cc); absent = λ q. absent; unsound = λ e q. never (cc) })

    spot_is : Sound w → spot_for k w ≡ x
    unfolding spot_for held
    spot_is sound = sym (after.exact 1 (pool_of w).whole.levels (pool_of w).whole.tree (gap_for k w) (sound-sits w sound) (gap-inside w k) (path.path sound))

    pub seeks-end : x ≡ None → SeeksKey w k ps ss ps' ss' (Ok None)
    seeks-end e = seeks-absent (λ sound. end-absent w k sound (spot_is sound ∙ e))

    module _ {p s key v : ℕ} (at : x ≡ Some (spot p s)) (read : entry key v ≡ entry_in most (page_in w p) s) where
      key-there : Sound w → member w k ≡ eqb key k
      key-there sound = spot-key w k sound p s key v (spot_is sound ∙ at) read

      pub seeks-here : key ≡ k → SeeksKey w k ps ss ps' ss' (Ok (Some (spot p s)))
      seeks-here e =
          seeks-by
          (record {
            here = λ p' s' q. record { within = after.within (spot p' s') (cc); there = λ sound. (key-there sound ∙ eq-eqb key k e, spot_is sound ∙ (cc)) };
            absent = λ q. never (cc);
            unsound = λ e q. never (cc);
          })

      pub seeks-other : key ≢ k → SeeksKey w k ps ss ps' ss' (Ok None)
      seeks-other n = seeks-absent (λ sound. key-there sound ∙ ne_eqb key k n)

-- ---- what is added

module _ {w ps ss ps' ss' : List ℕ} {k v : ℕ} (seeks : SeeksKey w k ps ss ps' ss' (Ok None)) {w' : List ℕ} {r : Result ⊤ Full} (puts : Inserts w ps' ss' (entry k v) w' r) where
  answers : Sound w → r ≡ inserted_by (full_for k w)
  answers sound = puts.exact (gap_for k w) sound (gap-inside w k) (seeks.path sound)

  pub adds-new : (pool_of w).cursor ≡ shut → r ≡ Ok tt → Adds k v w w' (Ok None)
  adds-new closed done = record {
    long = puts.long;
    new = λ q sound.
        let room = either (full_for k w) (λ y. never (cc (answers sound, ap inserted_by y))) (λ n. n) in
        record { absent = seeks.finds.absent refl sound; room = room; holds = puts.holds (gap_for k w) sound (gap-inside w k) (seeks.path sound) (rw closed (omega arith)) room };
    here = λ p s q. never (cc);
    refused = λ e q. never (cc);
    full = λ q. never (cc);
    unsound = λ q. never (cc);
  }

  pub adds-full : r ≡ full → Adds k v w w' (Err reason.NoRoom)
  adds-full fails = record {
    long = puts.long;
    new = λ q. never (cc);
    here = λ p s q. never (cc);
    refused = λ e q. inl (cc);
    full = λ q. (puts.kept fails, λ sound. (seeks.finds.absent refl sound, either (full_for k w) (λ y. y) (λ n. never (cc (answers sound, ap inserted_by n)))));
    unsound = λ q. never (cc);
  }

-- ---- what is struck

module _ {w ps ss ps' ss' : List ℕ} {k : ℕ} where
  pub strikes-absent : SeeksKey w k ps ss ps' ss' (Ok None) → Strikes k w w (Ok None)
  strikes-absent seeks = record {
    long = refl;
    value = λ v q. never (cc);
    absent = λ q. (refl, λ sound. absent-value w k sound (seeks.finds.absent refl sound));
    unsound = λ e q. never (cc);
  }

  module _ {p s : ℕ} (seeks : SeeksKey w k ps ss ps' ss' (Ok (Some (spot p s)))) {w' : List ℕ} {r : Result ⊤ Unsound} (removes : Removes w ps' ss' w' r) where
    here-entry : Sound w → gap_for k w < length (held_by (pool_of w))
    here-entry sound = gap-entry w k sound p s ((seeks.finds.here p s refl).there sound).1

    pub strikes-done : {key v : ℕ} → (pool_of w).cursor ≡ shut → entry key v ≡ entry_in most (page_in w p) s → r ≡ Ok tt → Strikes k w w' (Ok (Some v))
    strikes-done {key} {v} closed read done = record {
      long = removes.long;
      value = λ v' q sound.
          let t = (seeks.finds.here p s refl).there sound in
          record {
            value = spot-value w k sound p s key v t.1 read t.0 ∙ (cc);
            holds = removes.holds (gap_for k w) sound (here-entry sound) (seeks.path sound) (rw closed (omega arith));
          };
      absent = λ q. never (cc);
      unsound = λ e q. never (cc);
    }

    pub strikes-lost : (e : Unsound) → r ≡ Err unsound → Strikes k w w' (Err e)
    strikes-lost e fails = record {
      long = removes.long;
      value = λ v q. never (cc);
      absent = λ q. never (cc);
      unsound = λ e q. (removes.kept fails, λ sound. never (cc (removes.sound (gap_for k w) sound (here-entry sound) (seeks.path sound))));
    }

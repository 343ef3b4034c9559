-- What soundness says of what a pool holds, with no word in it; that it follows from soundness; and that each change
-- that a call makes keeps it.
-- The numbers of demand 3 hold of every such pool.
-- Assumes nothing.
use mathlib.Core.Path.{◌≡◌, refl, ◌∙◌}
use mathlib.Core.Bool.{true, false}
use mathlib.Core.List.{List, ◌∷◌}
use Prim.Native.Nat.{ℕ, suc, pred, ◌+◌, ◌*◌, ◌^◌, ◌≤◌, ◌<◌}
use native.Mathlib.Omega.{arith}
use lib.Dec.{leb}
use lib.ListN.{length, set, take, drop, length-append, length-take, length-drop, length-set}
use borrow.Author.Tests.{le-ltb, eq-eqb, ne_eqb, ltb-false}
use Rattle.model.specs.declared.Geometry.{Geometry}
use Rattle.model.specs.Basics.{All, del, ins}
use Rattle.model.specs.Layout.{most_pages, most_levels, most_entries}
use Rattle.model.specs.Lawful.{Lawful}
use Rattle.model.specs.Head.{open_word, after_word, key_word}
use Rattle.model.specs.PageMap.{map_of}
use Rattle.model.specs.Tree.{meets, times, Formed, Rising, Shaped, held, entries, Entry, entry}
use Rattle.model.specs.Entries.{shut, gap, key_fits}
use Rattle.model.specs.Insert.{needed}
use Rattle.model.specs.Remove.{remove}
use Rattle.model.specs.Write.{write}
use Rattle.model.specs.Pool.{Pool, pool_of, cursor_of, free_of, with_cursor, held_by, room, gap_by, with_whole, fresh_of, whole_of, least_by}
use Rattle.model.specs.HeadCalls.{made}
use Rattle.model.specs.Sound.{Sound}
use Rattle.model.specs.MapCalls.{crowded, put_at}
use Rattle.model.proofs.Cases.{either-eq}
use Rattle.model.proofs.Basics.{all_append, all_take, all_drop, all_set, length-ins}
use Rattle.model.proofs.PageMap.{bit_at_lt, free-count, fresh-once, fresh-inside}
use Rattle.model.proofs.Head.{head-facts}
use Rattle.model.proofs.Lawful.{geometry-lawful}
use Rattle.model.proofs.Entries.{key_at, rising-del, gap-le, rising-set, rising-ins}
use Rattle.model.proofs.Insert.{insert-held, insert-meets, insert-formed}
use Rattle.model.proofs.Remove.{remove-held, remove-meets, remove-formed}
use Rattle.model.proofs.Write.{write-held, write_meets, write-formed}
use Rattle.model.proofs.Numbers.{pages_of, levels-most, pages-met, whole-bound, whole-most}
use Rattle.model.proofs.Room.{room-enough}

pub record Right (p : Pool) : Type 0 where
  pub lawful : Lawful p.geometry
  pub some : 1 ≤ p.pages
  pub most : p.pages ≤ most_pages p.geometry
  pub kind : p.kind ≤ 1
  pub once : (q : ℕ) → meets q p.whole ≤ 1
  pub inside : (q : ℕ) → p.pages ≤ q → meets q p.whole ≡ 0
  pub formed : Formed (least_by p) p.whole
  pub rising : Rising (held_by p)
  pub zeros : p.kind ≡ 1 → All (λ e. e.value ≡ 0) (held_by p)
  pub within : gap_by p ≤ length (held_by p)
  pub closed : p.kind ≡ 1 → p.cursor ≡ shut

-- ---- a sound pool's

pub sound-right : (w : List ℕ) → Sound w → Right (pool_of w)
unfolding pool_of cursor_of
sound-right w s =
    let f = head-facts w s.head in
    record {
      lawful = geometry-lawful w;
      some = f.some;
      most = f.most;
      kind = f.kind;
      once = λ q. omega (arith, s.met q, bit_at_lt (map_of w) q);
      inside = λ q h. s.met q ∙ s.past q h;
      formed = s.formed;
      rising = s.rising;
      zeros = s.values;
      within =
          either-eq (open_word w) 0
          (λ e. rw (eq-eqb (open_word w) 0 e) (omega arith))
          (λ n. rw (ne_eqb (open_word w) 0 n)
          (either-eq (after_word w) 0
          (λ e. rw (eq-eqb (after_word w) 0 e) (omega arith))
          (λ k. rw (ne_eqb (after_word w) 0 k) (gap-le (λ x. leb x (key_word w)) (held (whole_of w))))));
      closed = λ k. rw (eq-eqb (open_word w) 0 (omega (arith, f.set-shut)));
    }

-- ---- the numbers of demand 3

module _ (p : Pool) (r : Right p) where
  -- the pages of the tree and the free ones are all pages
  pub right-pages : pages_of p.whole + room p ≡ p.pages
  unfolding meets pages_of free_of
  right-pages =
      omega (
        arith,
        pages-met p.whole.levels p.whole.tree p.pages r.inside,
        free-count (λ q. meets q p.whole) p.pages r.once,
      )

  pub right-levels : p.whole.levels ≤ most_levels p.geometry
  right-levels = levels-most p.geometry r.lawful p.whole r.formed (omega (arith, right-pages, r.most))

  pub right-deep : 1 ≤ p.whole.levels → 2 * suc (least_by p) ^ pred p.whole.levels ≤ suc (length (held_by p))
  right-deep = whole-bound (least_by p) p.whole r.formed

  pub right-full : length (held_by p) ≤ most_entries (least_by p) * pages_of p.whole
  right-full = whole-most (least_by p) p.whole r.formed

  -- no insert is refused for room while n ≤ mP
  pub right-room : (g : ℕ) → g ≤ length (held_by p) → length (held_by p) ≤ least_by p * p.pages → crowded g p ≡ false
  right-room g b n =
      le-ltb (room p) (needed (least_by p) p.whole g)
      (omega (arith, room-enough (least_by p) p.pages p.whole g r.some r.formed b n, right-pages))

-- ---- each change keeps it

module _ (p : Pool) (r : Right p) where
  pub right-put : (g k v : ℕ) → g ≤ length (held_by p) → key_fits k g (held_by p) ≡ true → crowded g p ≡ false → (p.kind ≡ 1 → v ≡ 0)
      → Right (put_at g (entry k v) p)
  unfolding free_of
  right-put g k v b fit free zero =
      let held_after : held_by (put_at g (entry k v) p) ≡ ins g (entry k v) (held_by p) = insert-held (least_by p) (fresh_of p) p.whole g (entry k v) r.formed b in
      let enough : needed (least_by p) p.whole g ≤ room p = ltb-false (room p) (needed (least_by p) p.whole g) free in
      let met = insert-meets (least_by p) (fresh_of p) p.whole g (entry k v) r.formed b in
      record {
        lawful = r.lawful;
        some = r.some;
        most = r.most;
        kind = r.kind;
        once = λ q. rw (met q) (fresh-once (λ q. meets q p.whole) p.pages (needed (least_by p) p.whole g) q enough (r.once q));
        inside = λ q h. rw (met q) (fresh-inside (λ q. meets q p.whole) p.pages (needed (least_by p) p.whole g) q enough h (r.inside q h));
        formed = insert-formed (least_by p) (fresh_of p) p.whole g (entry k v) r.formed b;
        rising = rw held_after (rising-ins k v g (held_by p) r.rising b fit);
        zeros = λ s. rw held_after (all-splice-in s);
        within = rw held_after (omega (arith, length-ins g (entry k v) (held_by p) b, r.within));
        closed = r.closed;
      }
    where
      all-splice-in : p.kind ≡ 1 → All (λ e. e.value ≡ 0) (ins g (entry k v) (held_by p))
      all-splice-in s =
          all_append (λ e. e.value ≡ 0) (take g (held_by p)) (entry k v ∷ drop g (held_by p))
          (all_take (λ e. e.value ≡ 0) g (held_by p) (r.zeros s)) (zero s, all_drop (λ e. e.value ≡ 0) g (held_by p) (r.zeros s))

  pub right-write : (g v : ℕ) → g < length (held_by p) → (p.kind ≡ 1 → v ≡ 0) → Right (with_whole p (write p.whole g (entry (key_at (held_by p) g) v)))
  right-write g v b zero =
      let e : Entry = entry (key_at (held_by p) g) v in
      let held_after : held (write p.whole g e) ≡ set (held_by p) g e = write-held (least_by p) p.whole g e r.formed b in
      let met = write_meets (least_by p) p.whole g e r.formed b in
      record {
        lawful = r.lawful;
        some = r.some;
        most = r.most;
        kind = r.kind;
        once = λ q. rw (met q) (r.once q);
        inside = λ q h. rw (met q) (r.inside q h);
        formed = write-formed (least_by p) p.whole g e r.formed b;
        rising = rw held_after (rising-set g e (held_by p) r.rising refl);
        zeros = λ s. rw held_after (all_set (λ e. e.value ≡ 0) (held_by p) g e (zero s) (r.zeros s));
        within = rw held_after (omega (arith, length-set (held_by p) g e, r.within));
        closed = r.closed;
      }

  -- an open cursor's gap is not after the entry that goes
  pub right-remove : (g : ℕ) → g < length (held_by p) → gap_by p ≤ g → Right (with_whole p (remove (least_by p) p.whole g))
  right-remove g b c =
      let held_after : held (remove (least_by p) p.whole g) ≡ del g (held_by p) = remove-held (least_by p) p.whole g (omega arith) r.formed b in
      let met = remove-meets (least_by p) p.whole g (omega arith) r.formed b in
      record {
        lawful = r.lawful;
        some = r.some;
        most = r.most;
        kind = r.kind;
        once = λ q. omega (arith, met q, r.once q);
        inside = λ q h. omega (arith, met q, r.inside q h);
        formed = remove-formed (least_by p) p.whole g (omega arith) r.formed b;
        rising = rw held_after (rising-del g (held_by p) r.rising);
        zeros = λ s. rw held_after
            (all_append (λ e. e.value ≡ 0) (take g (held_by p)) (drop (suc g) (held_by p)) (all_take (λ e. e.value ≡ 0) g (held_by p) (r.zeros s))
            (all_drop (λ e. e.value ≡ 0) (suc g) (held_by p) (r.zeros s)));
        within = rw held_after (simp (length-append, length-take, length-drop) (omega arith));
        closed = r.closed;
      }

  pub right-cursor : (g : ℕ) → g ≤ length (held_by p) → p.kind ≡ 0 → Right (with_cursor p (gap g))
  right-cursor g b k = record {
    lawful = r.lawful;
    some = r.some;
    most = r.most;
    kind = r.kind;
    once = r.once;
    inside = r.inside;
    formed = r.formed;
    rising = r.rising;
    zeros = r.zeros;
    within = b;
    closed = λ s. absurd (omega arith);
  }

  pub right-shut : Right (with_cursor p shut)
  right-shut = record {
    lawful = r.lawful;
    some = r.some;
    most = r.most;
    kind = r.kind;
    once = r.once;
    inside = r.inside;
    formed = r.formed;
    rising = r.rising;
    zeros = r.zeros;
    within = omega arith;
    closed = λ s. refl;
  }

pub right-made : (γ : Geometry) → Lawful γ → (P kind : ℕ) → 1 ≤ P → P ≤ most_pages γ → kind ≤ 1 → Right (made γ P kind)
unfolding meets times Formed Shaped held entries
right-made γ law P kind some most k = record {
  lawful = law;
  some = some;
  most = most;
  kind = k;
  once = λ q. omega arith;
  inside = λ q h. refl;
  formed = tt;
  rising = tt;
  zeros = λ s. tt;
  within = omega arith;
  closed = λ s. refl;
}

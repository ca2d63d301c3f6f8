-- There is a row for the end of every request of an event: those that expired in ageing and those that are left are no more than there
-- are slots, and one row more is left for an opening. So no count of rows ever stops short.
-- Assumes nothing.
use Prim.Native.Nat.{ℕ, zero, suc, ◌+◌, ◌*◌, ◌≤◌}
use Rattle.std.specs.Prelude.{◌≡◌, Bool, not}
use Rattle.std.proofs.Math.Path.{refl}
use Rattle.std.proofs.Math.Bool.{true, false}
use mathlib.Core.List.{List, [], ◌∷◌, map}
use Rattle.std.proofs.Math.Option.{Option, none, some}
use native.Mathlib.Omega.{arith}
use Rattle.std.proofs.Math.Nat.{mul-le-mul_left}
use Rattle.std.proofs.Math.ListN.{length, length-append, length-map}
use Rattle.laws.specs.Pick.{pick}
use Rattle.laws.specs.Laws.Pick.{pick_ind}
use Rattle.sizes.specs.Sizes.{most_faces, most_entries}
use Rattle.records.specs.Slots.{Held, at_place, slot, given, held, held_from, only, each}
use Rattle.records.specs.Entry.{Request, Entry, is_idle, is_live, if_live, aged_entry, with_requests}
use Rattle.records.specs.Laws.Each.{held_length}
use Rattle.records.specs.Happening.{Fate, Happening, expired, closed, happens}
use Rattle.records.specs.Rows.{row_of}
use Rattle.records.specs.Ageing.{expiries, staying, aged_pending}
use Rattle.happenings.specs.Noted.{most_rows}
use Rattle.pending_pass.specs.Ages.{aged_rows}
use Rattle.pending_pass.specs.Asked.{asked}
use Rattle.pending_pass.specs.Satisfies.{ends_by}
use Rattle.records.specs.Closing.{closing_ends}

module _ (now : ℕ) where
  -- whether a request is over
  abbrev over : Held Request → Bool
  over h = not (is_live now h.what)

  -- the requests that expire, and those that live
  slots_split : (f : ℕ) (l : List (Option Request))
      → length (only over (held_from f l)) + length (held_from f (map (if_live now) l)) ≡ length (held_from f l)
  unfolding held_from only if_live pick
  slots_split f [] = refl
  slots_split f (none ∷ l) = slots_split (suc f) l
  slots_split f (some r ∷ l) = go (is_live now r) (slots_split (suc f) l)
    where
      go : (b : Bool) → length (only over (held_from (suc f) l)) + length (held_from (suc f) (map (if_live now) l)) ≡ length
          (held_from (suc f) l)
          → length (pick (not b) (record { face = f; what = r } ∷ only over (held_from (suc f) l)) (only over (held_from (suc f) l)))
          + length (held_from f (pick b (some r) none ∷ map (if_live now) l))
          ≡ suc (length (held_from (suc f) l))
      go true h = omega arith
      go false h = omega arith

  -- of an entry
  entry_split : (e : Entry) → length (expiries now e) + length (held (aged_entry now e).requests) ≡ length (held e.requests)
  unfolding expiries aged_entry with_requests held
  entry_split e = omega (arith, length-map (only over (held_from 1 e.requests)) (happens expired now e), slots_split 1 e.requests)

  -- of all entries
  all_split : (es : List Entry) → length (each (expiries now) es) + asked (aged_pending now es) ≤ asked es
  unfolding each asked aged_pending staying only
  all_split [] = omega arith
  all_split (e ∷ es) =
      let k = length (held (aged_entry now e).requests) in
      let s = staying (map (aged_entry now) es) in
      let a : asked (pick (not (is_idle (aged_entry now e))) (aged_entry now e ∷ s) s) ≤ k + asked s =
      pick_ind (λ (x : List Entry). asked x ≤ k + asked s) (not (is_idle (aged_entry now e))) _ _ (λ _. omega arith) (λ _. omega arith) in
      omega (arith, a, all_split es, entry_split e, length-append (expiries now e) (each (expiries now) es))

  -- Data ends no more requests than there are
  data_ends_lem : (fate : ℕ → Fate) (p : Entry → Bool) (es : List Entry) → length (each (ends_by fate now) (only p es)) ≤ asked es
  unfolding each asked only ends_by pick
  data_ends_lem fate p [] = omega arith
  data_ends_lem fate p (e ∷ es) = go (p e) (data_ends_lem fate p es)
    where
      go : (b : Bool) → length (each (ends_by fate now) (only p es)) ≤ asked es
          → length (each (ends_by fate now) (pick b (e ∷ only p es) (only p es))) ≤ length (held e.requests) + asked es
      go true h = omega (
        arith,
        h,
        length-append (ends_by fate now e) (each (ends_by fate now) (only p es)),
        length-map
            (held e.requests) (λ x. happens (fate x.face) now e x),
      )
      go false h = omega (arith, h)

-- what a slot has is among what is held
slot_held : {A : Type 0} (k f : ℕ) (l : List (Option A)) (B : Type 0) (g : A → List B) → ((a : A) → length (g a) ≤ 1)
    → length (given [] g (slot f l)) ≤ length (held_from k l)
unfolding slot given held_from
slot_held k zero l B g h = omega arith
slot_held k (suc i) [] B g h = omega arith
slot_held k (suc zero) (none ∷ l) B g h = omega arith
slot_held k (suc zero) (some a ∷ l) B g h = omega (arith, h a)
slot_held k (suc (suc i)) (none ∷ l) B g h = slot_held (suc k) (suc i) l B g h
slot_held k (suc (suc i)) (some a ∷ l) B g h = omega (arith, slot_held (suc k) (suc i) l B g h)

-- closing a face ends no more requests than there are
closing_ends_lem : (now f : ℕ) (es : List Entry) → length (each (closing_ends now f) es) ≤ asked es
unfolding each asked closing_ends held
closing_ends_lem now f [] = omega arith
closing_ends_lem now f (e ∷ es) =
    omega (
      arith,
      closing_ends_lem now f es,
      length-append (closing_ends now f e) (each (closing_ends now f) es),
      slot_held 1 f e.requests Happening (λ (r : Request). happens closed now e (record { face = f; what = r }) ∷ []) (λ a. omega arith),
    )

-- one entry has no more requests than all
entry_asked : (i : ℕ) (es : List Entry) (e : Entry) → at_place i es ≡ some e → length (held e.requests) ≤ asked es
unfolding asked at_place
entry_asked i [] e p = let z : ◌≡◌ {A = ℕ} 0 1 = cc in absurd (omega arith)
entry_asked zero (a ∷ es) e p = let z : a ≡ e = cc in rw z (omega arith)
entry_asked (suc i) (a ∷ es) e p = omega (arith, entry_asked i es e p)

-- at most n for each entry of n slots
asked_most : (n : ℕ) (es : List Entry) → ((i : ℕ) (e : Entry) → at_place i es ≡ some e → length e.requests ≡ n)
    → asked es ≤ n * length es
unfolding asked at_place held
asked_most n [] h = omega arith
asked_most n (e ∷ es) h = omega (arith, asked_most n es (λ i x q. h (suc i) x q), h 0 e refl, held_length 1 e.requests)

module _ (now : ℕ) (es : List Entry) (wide : (i : ℕ) (e : Entry) → at_place i es ≡ some e → length e.requests ≡ most_faces)
    (few : length es ≤ most_entries) where
  -- past ageing there is a row for the end of every request that is left, and one for an opening
  pub rows_left : length (aged_rows now es) + asked (aged_pending now es) + 1 ≤ most_rows
  unfolding aged_rows
  rows_left =
      let m : most_faces * length es ≤ most_faces * most_entries = mul-le-mul_left most_faces few in
      omega (arith, m, asked_most most_faces es wide, all_split now es, length-map (each (expiries now) es) row_of)

  -- so there is one for each that expires
  pub rows_few : length (aged_rows now es) ≤ most_rows
  rows_few = omega (arith, rows_left)

  -- past ageing there is a row for an opening
  pub opening_room : length (aged_rows now es) + 1 ≤ most_rows
  opening_room = omega (arith, rows_left)

  -- and one for each end by Data
  pub data_room : (fate : ℕ → Fate) (p : Entry → Bool)
      → length (aged_rows now es) + length (map row_of (each (ends_by fate now) (only p (aged_pending now es)))) ≤ most_rows
  data_room fate p =
      let l = each (ends_by fate now) (only p (aged_pending now es)) in
      omega (arith, rows_left, length-map l row_of, data_ends_lem now fate p (aged_pending now es))

  -- for each end by closing a face
  pub closing_room : (f : ℕ) → length (aged_rows now es) + length (map row_of (each (closing_ends now f) (aged_pending now es))) ≤ most_rows
  closing_room f =
      let l = each (closing_ends now f) (aged_pending now es) in
      omega (arith, rows_left, length-map l row_of, closing_ends_lem now f (aged_pending now es))

  -- and for each request of one entry
  pub entry_room : (i : ℕ) (e : Entry) → at_place i (aged_pending now es) ≡ some e
      → length (aged_rows now es) + length (held e.requests) ≤ most_rows
  entry_room i e p = omega (arith, rows_left, entry_asked i (aged_pending now es) e p)

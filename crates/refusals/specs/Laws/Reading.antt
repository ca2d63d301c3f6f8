-- Reading a packet refuses it by 4, 5 or 6 and by no other answer: by 4 where the packet is too long, else by 5 or 6, else by 4 exactly
-- where its name is too long.
-- Assumes nothing.
use Rattle.std.specs.Prelude.{ℕ, ◌≡◌, refl, ◌⊎◌, Bool, true, false, ◌||◌, List, [], length, ltb, eqb, None, Option, Some}
use Rattle.std.proofs.Common.{◌∙◌, ap, inl, inr}
use Rattle.answers.specs.declared.Answer.{Answer}
use Rattle.laws.specs.Pick.{pick}
use Rattle.laws.specs.Laws.Pick.{pick_ind, pick_yes, pick_no}
use Rattle.wire.specs.Element.{Elem, element, onward}
use Rattle.wire.specs.Element as wire
use Rattle.wire.specs.declared.verdict.Verdict.{Verdict}
use Rattle.wire.specs.Verdict.{is_malformed, is_unsupported}
use Rattle.wire.specs.Laws.Verdict.{said_fine}
use Rattle.sizes.specs.Sizes.{most_packet, most_components, most_name}
use Rattle.names.specs.declared.component.Counted.{Counted}
use Rattle.names.specs.Name.{counted}
use Rattle.grammar.specs.Types.{interest, dat, meta_info as meta, fragment, lp_packet as lp, nack}
use Rattle.grammar.specs.Table.{table, row_of, outer}
use Rattle.grammar.specs.Walk.{Field, absent, here, Fields, walked}
use Rattle.packethead.specs.Header.{Came, val, bytes_in, missing, nacked_by, fragment_read, lp_fields, lp_read, outer_read, header_read}
use Rattle.packethead.specs.Header as header
use Rattle.packets.specs.Bare.{Reading, asks, brings, nacks, asked_by, sized, named_interest, interest_read, named_data, data_read, data_value, data_unless, kind_read, bare_read}
use Rattle.packets.specs.Bare as bare
use Rattle.packets.specs.Meaning.{Heard, meant, came_means, heard}
use Rattle.packets.specs.Meaning as meaning
use Rattle.packethead.specs.Name.{name_in, name_of, bare_of, name_came}
use Rattle.packets.specs.Laws.Shape.{heard_is, bare_means}
use Rattle.packets.specs.Laws.Name.{interest_finds, data_finds}

-- a test that counts where nothing was said
abbrev pub if_fine : Verdict → Bool → Bool
if_fine Verdict.Fine b = b
if_fine Verdict.Malformed b = false
if_fine Verdict.Unsupported b = false

-- whether a name is over its size, by what its bytes say
unfoldable pub over_size : List ℕ → Counted → Bool
over_size name c = if_fine c.said (ltb most_name (length name) || ltb most_components c.count)

-- "Name at most 16 components and 255 bytes": whether a name is over its size
unfoldable pub is_long : List ℕ → Bool
unfolding over_size
is_long name = over_size name (counted name)

-- ---- a bare packet

-- a reading of a packet whose name is too long or not: refused by 5 or 6, else by 4 exactly where it is
abbrev Judged : Bool → Reading → Type 0
Judged b (bare.refused a) = (a ≡ Answer.Malformed) ⊎ (a ≡ Answer.Unsupported) ⊎ ((a ≡ Answer.TooLong) × (b ≡ true))
Judged b (asks f) = b ≡ false
Judged b (brings f g) = b ≡ false
Judged b (nacks r f) = b ≡ false

-- 5 whatever the name
malformed : (b : Bool) → Judged b (bare.refused Answer.Malformed)
malformed b = inl refl

-- 6 whatever the name
unsupported : (b : Bool) → Judged b (bare.refused Answer.Unsupported)
unsupported b = inr (inl refl)

-- an Interest, or a Nack
asked_judged : (k : Option ℕ) (f : Fields) (b : Bool) → b ≡ false → Judged b (asked_by k f)
unfolding asked_by
asked_judged None f b e = e
asked_judged (Some n) f b e = e

-- by the size of the name
sized_judged : (name : List ℕ) (n : ℕ) (r : Reading) → ((b : Bool) → b ≡ false → Judged b r) → Judged (ltb most_name (length name) || ltb most_components n) (sized name n r)
unfolding sized pick
sized_judged name n r h = go (ltb most_name (length name)) (ltb most_components n)
  where
    go : (x y : Bool) → Judged (x || y) (pick x (bare.refused Answer.TooLong) (pick y (bare.refused Answer.TooLong) r))
    go true y = inr (inr (refl, refl))
    go false true = inr (inr (refl, refl))
    go false false = h false refl

-- an Interest by what its name says
named_interest_judged : (k : Option ℕ) (m : Bool) (f : Fields) (c : Counted) → Judged (over_size (bytes_in (val f 1)) c) (named_interest k m f c)
unfolding named_interest over_size
named_interest_judged k m f c =
    let b = over_size (bytes_in (val f 1)) c in
    pick_ind (Judged b) (is_malformed c.said) _ _ (λ _. malformed b)
    (λ x. pick_ind (Judged b) (eqb c.count 0) _ _ (λ _. malformed b)
    (λ _. pick_ind (Judged b) m _ _ (λ _. unsupported b)
    (λ _. pick_ind (Judged b) (is_unsupported f.said) _ _ (λ _. unsupported b)
    (λ _. pick_ind (Judged b) (is_unsupported c.said) _ _ (λ _. unsupported b)
    (λ y. rw (said_fine c.said x y) (sized_judged (bytes_in (val f 1)) c.count (asked_by k f) (asked_judged k f)))))))

-- an Interest by its elements, whose name is found where nothing is 5 and it is there
interest_judged : (k : Option ℕ) (m : Bool) (f : Fields) (name : List ℕ)
    → (is_malformed f.said ≡ false → missing (val f 1) ≡ false → name ≡ bytes_in (val f 1)) → Judged (is_long name) (interest_read k m f)
unfolding interest_read is_long
interest_judged k m f name h =
    let b = over_size name (counted name) in
    pick_ind (Judged b) (is_malformed f.said) _ _ (λ _. malformed b)
    (λ x. pick_ind (Judged b) (missing (val f 1)) _ _ (λ _. malformed b)
    (λ y. pick_ind (Judged b) (missing (val f 5)) _ _ (λ _. malformed b)
    (λ _. rw (h x y) (named_interest_judged k m f (counted (bytes_in (val f 1)))))))

-- a Data by what its name says
named_data_judged : (m : Bool) (f g : Fields) (c : Counted) → Judged (over_size (bytes_in (val f 1)) c) (named_data m f g c)
unfolding named_data over_size
named_data_judged m f g c =
    let b = over_size (bytes_in (val f 1)) c in
    pick_ind (Judged b) (is_malformed c.said) _ _ (λ _. malformed b)
    (λ x. pick_ind (Judged b) m _ _ (λ _. unsupported b)
    (λ _. pick_ind (Judged b) (is_unsupported c.said) _ _ (λ _. unsupported b)
    (λ y. rw (said_fine c.said x y) (sized_judged (bytes_in (val f 1)) c.count (brings f g) (λ b e. e)))))

-- a Data by its elements
data_judged : (m : Bool) (f g : Fields) (name : List ℕ)
    → (is_malformed f.said ≡ false → missing (val f 1) ≡ false → name ≡ bytes_in (val f 1)) → Judged (is_long name) (data_read m f g)
unfolding data_read is_long
data_judged m f g name h =
    let b = over_size name (counted name) in
    pick_ind (Judged b) (is_malformed f.said) _ _ (λ _. malformed b)
    (λ x. pick_ind (Judged b) (missing (val f 1)) _ _ (λ _. malformed b)
    (λ y. pick_ind (Judged b) (missing (val f 4)) _ _ (λ _. malformed b)
    (λ _. pick_ind (Judged b) (missing (val f 5)) _ _ (λ _. malformed b)
    (λ _. pick_ind (Judged b) (is_malformed g.said) _ _ (λ _. malformed b)
    (λ _. rw (h x y) (named_data_judged m f g (counted (bytes_in (val f 1)))))))))

-- a Data, unless there is a Nack
unless_judged : (k : Option ℕ) (b : Bool) (r : Reading) → Judged b r → Judged b (data_unless k r)
unfolding data_unless
unless_judged None b r h = h
unless_judged (Some n) b r h = malformed b

-- an Interest or a Data, by the type
kind_judged : (k : Option ℕ) (m : Bool) (t : ℕ) (v : List ℕ) → Judged (is_long (name_in v)) (kind_read k m t v)
unfolding kind_read data_value
kind_judged k m t v =
    let b = is_long (name_in v) in
    pick_ind (Judged b) (eqb (row_of fragment t table).order 1) _ _
    (λ _. interest_judged k m (walked interest v) (name_in v) (interest_finds v))
    (λ _. pick_ind (Judged b) (eqb (row_of fragment t table).order 2) _ _
    (λ _. unless_judged k b (data_value m v)
    (data_judged m (walked dat v) (walked meta (bytes_in (val (walked dat v) 2))) (name_in v) (data_finds v)))
    (λ _. malformed b))

-- a bare packet
bare_judged : (k : Option ℕ) (m : Bool) (l : List ℕ) → Judged (is_long (name_of l)) (bare_read k m l)
unfolding bare_read name_of
bare_judged k m l = go (element l)
  where
    go : (e : Elem)
        → Judged (is_long (onward e [] (λ t v r. name_in v)))
        (onward e (bare.refused Answer.Malformed) (λ t v r. pick (ltb 0 (length r)) (bare.refused Answer.Malformed) (kind_read k m t v)))
    go wire.bad = malformed _
    go (wire.elem t v r) =
        let b = is_long (name_in v) in
        pick_ind (Judged b) (ltb 0 (length r)) _ _ (λ _. malformed b) (λ _. kind_judged k m t v)

-- ---- the header

-- a header's refusal is 5 or 6
abbrev Fine : Came → Type 0
Fine (header.refused a) = (a ≡ Answer.Malformed) ⊎ (a ≡ Answer.Unsupported)
Fine (header.bare b) = Unit {0}

-- by the Fragment
fragment_fine : (x : Field) (k : Option ℕ) (m : Bool) → Fine (fragment_read x k m)
unfolding fragment_read
fragment_fine absent k m = inr refl
fragment_fine (here v j) k m = tt

-- an LpPacket by its elements
lp_fine : (f g : Fields) → Fine (lp_fields f g)
unfolding lp_fields
lp_fine f g =
    pick_ind Fine (is_malformed f.said) _ _ (λ _. inl refl)
    (λ _. pick_ind Fine (is_malformed g.said) _ _ (λ _. inl refl) (λ _. fragment_fine (val f 2) (nacked_by (val f 1) (val g 1)) (is_unsupported f.said)))

-- by the outer type
outer_fine : (t : ℕ) (v l : List ℕ) → Fine (outer_read t v l)
unfolding outer_read lp_read
outer_fine t v l =
    pick_ind Fine (eqb (row_of outer t table).order 0) _ _ (λ _. inl refl)
    (λ _. pick_ind Fine (eqb (row_of outer t table).order 3) _ _ (λ _. lp_fine (walked lp v) (walked nack (bytes_in (val (walked lp v) 1)))) (λ _. tt))

-- a packet that is not too long
header_fine : (l : List ℕ) → ltb most_packet (length l) ≡ false → Fine (header_read l)
unfolding header_read
header_fine l h = rw (pick_no (ltb most_packet (length l)) _ _ h) (go (element l))
  where
    go : (e : Elem) → Fine (onward e (header.refused Answer.Malformed) (λ t v r. pick (ltb 0 (length r)) (header.refused Answer.Malformed) (outer_read t v l)))
    go wire.bad = inl refl
    go (wire.elem t v r) = pick_ind Fine (ltb 0 (length r)) _ _ (λ _. inl refl) (λ _. outer_fine t v l)

-- ---- the whole packet

-- what a packet means whose name is too long or not: refused by 5 or 6, else by 4 exactly where it is
abbrev pub Heeds : Bool → Heard → Type 0
Heeds b (meaning.refused a) = (a ≡ Answer.Malformed) ⊎ (a ≡ Answer.Unsupported) ⊎ ((a ≡ Answer.TooLong) × (b ≡ true))
Heeds b (meaning.asks i bytes) = b ≡ false
Heeds b (meaning.brings d bytes) = b ≡ false
Heeds b (meaning.nacks r i) = b ≡ false

-- a bare packet
meant_heeds : (b : Bool) (l : List ℕ) (r : Reading) → Judged b r → Heeds b (meant l r)
unfolding meant
meant_heeds b l (bare.refused a) h = h
meant_heeds b l (asks f) h = h
meant_heeds b l (brings f g) h = h
meant_heeds b l (nacks r f) h = h

-- by the header
came_heeds : (c : Came) → Fine c → Heeds (is_long (name_of (bare_of c))) (came_means c)
unfolding came_means bare_of
came_heeds (header.refused a) (inl e) = inl e
came_heeds (header.refused a) (inr e) = inr (inl e)
came_heeds (header.bare b) h =
    rw (bare_means b.nack b.marked b.bytes)
    (meant_heeds (is_long (name_of b.bytes)) b.bytes (bare_read b.nack b.marked b.bytes) (bare_judged b.nack b.marked b.bytes))

-- a packet that is not too long
pub heard_heeds : (l : List ℕ) → ltb most_packet (length l) ≡ false → Heeds (is_long (name_came l)) (heard l)
unfolding name_came
heard_heeds l h = rw (heard_is l) (came_heeds (header_read l) (header_fine l h))

-- a packet that is too long
pub heard_long : (l : List ℕ) → ltb most_packet (length l) ≡ true → heard l ≡ meaning.refused Answer.TooLong
unfolding header_read came_means
heard_long l h = heard_is l ∙ ap came_means (pick_yes (ltb most_packet (length l)) _ _ h)

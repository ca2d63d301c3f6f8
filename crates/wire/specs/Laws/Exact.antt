-- What is read is what would be written. Since only the shortest form of a number is read, the bytes of an element are fixed by its type
-- and its value, and the bytes of a parent by its elements.
-- Assumes nothing.
use Rattle.std.specs.Prelude.{ℕ, zero, suc, ◌+◌, ◌*◌, ◌/◌, ◌%◌, ◌≤◌, ◌<◌, ◌≡◌, refl, Bool, true, false, List, [], ◌∷◌, ◌++◌, length, get_or, take, ltb, eqb}
use Rattle.std.proofs.Common.{sym, ◌∙◌, ap, append_assoc, append-nil, take-append-drop, take-suc, ltb-false, eqb-true, arith}
use Rattle.std.proofs.lemmas.Bool.{eqb-false}
use Rattle.laws.specs.Pick.{pick}
use Rattle.laws.specs.Laws.Pick.{pick_ind}
use Rattle.wire.specs.Laws.Read.{big_snoc}
use Rattle.wire.specs.Number.{big, Got, nothing, got, wide, long, any_number, width_of, number}
use Rattle.wire.specs.Element.{elem, element, elements, ended}
use Rattle.wire.specs.Write.{bytes_of, encoded, written}
use Rattle.wire.specs.Bytes.{Bytes}
use Rattle.wire.specs.Laws.Bytes.{bytes_cons, bytes_right}
use Rattle.wire.specs.Laws.Within.{number_any, number_width, Parts, element_parts, rest_bytes}
use Rattle.wire.specs.Laws.Walk.{elements_ind, elements_stop, elements_more, ended_rest}

-- the number that the first k bytes make, in k bytes
bytes_of_take : (k : ℕ) (l : List ℕ) → k ≤ length l → Bytes l → bytes_of k (big 0 (take k l)) ≡ take k l
unfolding bytes_of
bytes_of_take zero l h i = refl
bytes_of_take (suc k) l h i =
    let b = get_or l k 0 in
    let n = big 0 (take k l) in
    let e : big 0 (take k l ++ b ∷ []) ≡ n * 256 + b = big_snoc 0 (take k l) b in
    let d : (n * 256 + b) / 256 ≡ n = omega (arith, i k) in
    let m : (n * 256 + b) % 256 ≡ b = omega (arith, i k) in
    rw (take-suc l k 0 h, e, d, m, bytes_of_take k l (omega arith) i)

-- the form of w bytes
abbrev form_of : ℕ → ℕ → List ℕ
form_of w n = pick (eqb w 1) (n ∷ []) (pick (eqb w 3) (253 ∷ bytes_of 2 n) (pick (eqb w 5) (254 ∷ bytes_of 4 n) (255 ∷ bytes_of 8 n)))

-- the shortest form is that of the width of the number
encoded_form : (n : ℕ) → encoded n ≡ form_of (width_of n) n
unfolding encoded width_of pick
encoded_form n = go (ltb n 253) (ltb n 65536) (ltb n 4294967296)
  where
    go : (a b c : Bool)
        → pick a (n ∷ []) (pick b (253 ∷ bytes_of 2 n) (pick c (254 ∷ bytes_of 4 n) (255 ∷ bytes_of 8 n))) ≡ form_of (pick a 1 (pick b 3 (pick c 5 9))) n
    go true b c = refl
    go false true c = refl
    go false false true = refl
    go false false false = refl

-- of a number that is read in its shortest form: the bytes are those of that form, and then what follows
abbrev Exact : List ℕ → Got → Type 0
Exact l nothing = Unit {0}
Exact l (got v w r) = w ≡ width_of v → l ≡ encoded v ++ r

-- n bytes after a first one
exact_wide : (n b : ℕ) (l : List ℕ) → Bytes l → ((v : ℕ) → form_of (suc n) v ≡ b ∷ bytes_of n v) → Exact (b ∷ l) (wide n l)
unfolding wide
exact_wide n b l h q =
    pick_ind (Exact (b ∷ l)) (ltb (length l) n) _ _ (λ k. tt)
    (λ k w. rw (encoded_form (big 0 (take n l)), ← w, q (big 0 (take n l)), bytes_of_take n l (ltb-false (length l) n k) h) (sym (ap (λ (x : List ℕ). b ∷ x) (take-append-drop n l))))

-- the forms of 3, 5 and 9 bytes: a first byte of 253 or more is 253, 254 or 255
exact_long : (b : ℕ) (l : List ℕ) → 253 ≤ b → b < 256 → Bytes l → Exact (b ∷ l) (long b l)
unfolding long pick
exact_long b l lo hi h =
    pick_ind (Exact (b ∷ l)) (eqb b 253) _ _ (λ e. exact_wide 2 b l h (λ v. rw (eqb-true b 253 e)))
    (λ e.
    pick_ind (Exact (b ∷ l)) (eqb b 254) _ _ (λ k. exact_wide 4 b l h (λ v. rw (eqb-true b 254 k)))
    (λ k. let q : b ≡ 255 = omega (arith, eqb-false b 253 e, eqb-false b 254 k) in exact_wide 8 b l h (λ v. rw q)))

-- a number in any form
exact_any : (l : List ℕ) → Bytes l → Exact l (any_number l)
unfolding any_number pick
exact_any [] h = tt
exact_any (b ∷ l) h =
    pick_ind (Exact (b ∷ l)) (ltb b 253) _ _ (λ e w. rw (encoded_form b, ← w)) (λ e. exact_long b l (ltb-false b 253 e) (h 0) (bytes_cons b l h).1)

-- the bytes of a number that is read are its shortest form, and then what follows
pub number_exact : (l : List ℕ) {v w : ℕ} {r : List ℕ} → Bytes l → number l ≡ got v w r → l ≡ encoded v ++ r
number_exact l {v} {w} {r} h e =
    let x : Exact l (got v w r) = rw (number_any l e) at (exact_any l h) in
    x (number_width l e)

-- an element before others, part by part
written_before : (t : ℕ) (v r : List ℕ) → written t v ++ r ≡ encoded t ++ (encoded (length v) ++ (v ++ r))
unfolding written
written_before t v r = append_assoc (encoded t ++ encoded (length v)) v r ∙ append_assoc (encoded t) (encoded (length v)) (v ++ r)

-- the bytes of an element that is read are the element written, and then what follows
pub element_exact : (l : List ℕ) {t : ℕ} {v r : List ℕ} → Bytes l → element l ≡ elem t v r → l ≡ written t v ++ r
element_exact l {t} {v} {r} h e =
    let p : Parts l t v r = element_parts l e in
    let a : l ≡ encoded t ++ p.after = number_exact l h p.typ in
    let i : Bytes p.after = bytes_right (encoded t) p.after (rw a at h) in
    let b : p.after ≡ encoded (length v) ++ p.body = number_exact p.after i p.len in
    cc (take-append-drop (length v) p.body, p.value, p.rest, written_before t v r)

-- an element as it is written: its type and its value
pub record Item : Type 0 where
  pub typ : ℕ
  pub value : List ℕ

-- of each element its type and its value are kept
unfoldable pub item : ℕ → List ℕ → List ℕ → Item
item t v r = record { typ = t; value = v }

-- elements written one after the other
unfoldable pub joined : List Item → List ℕ
joined [] = []
joined (i ∷ is) = written i.typ i.value ++ joined is

-- bytes are their elements written one after the other, and then what is left
pub elements_all : (l : List ℕ) → Bytes l → l ≡ joined (elements item l).items ++ (elements item l).rest
unfolding item joined
elements_all =
    elements_ind (λ l. Bytes l → l ≡ joined (elements item l).items ++ (elements item l).rest)
    (λ l e h. rw (elements_stop item l e))
    (λ l t v r e ih h.
    let f = elements item r in
    rw (elements_more item l e) (cc (element_exact l h e, ih (rest_bytes l h e), append_assoc (written t v) (joined f.items) f.rest)))

-- bytes that end with their last element are their elements written one after the other
pub elements_exact : (l : List ℕ) → Bytes l → ended (elements item l) ≡ true → l ≡ joined (elements item l).items
elements_exact l h e = elements_all l h ∙ rw (ended_rest (elements item l) e) (append-nil (joined (elements item l).items))

-- The round trip: a number's shortest form is read back whatever stands around it, and it is the only form that is read.
-- Assumes nothing.
use Rattle.std.specs.Prelude.{ℕ, zero, suc, ◌+◌, ◌*◌, ◌-◌, ◌/◌, ◌%◌, ◌^◌, ◌≤◌, ◌<◌, ◌≡◌, refl, true, ◌≢◌, List, [], ◌∷◌, ◌++◌, length, get_or, drop, ltb, Some}
use Rattle.std.proofs.Common.{ap, ⊎_elim, length-append, get_or-drop, lt-ltb, le-ltb, le-leb, ltb-true, ltb-false, eq-zero-or-pos, arith}
use Rattle.std.proofs.Math.Bool.{or-true}
use Rattle.std.proofs.Math.Seq.{drop-append_seam}
use Rattle.std.proofs.Math.Nat.{one-le-pow}
use Rattle.laws.specs.Pick.{pick}
use Rattle.laws.specs.Laws.Pick.{pick_ind}
use Rattle.tape.specs.Number.{Groups, cut, groups, lower, sevens, regular, number_in, tape_number_at}
use Rattle.tape.specs.Laws.Number.{group_last, group_more, sevens_counted, number_is, regular_few, regular_shortest}

-- a number in groups of seven bits, low first, with at most k groups after the first
unfoldable pub tape_bytes : ℕ → ℕ → List ℕ
tape_bytes zero v = v ∷ []
tape_bytes (suc k) v = pick (ltb v 128) (v ∷ []) ((128 + v % 128) ∷ tape_bytes k (v / 128))

-- a number of 64 bits in its shortest form: ten groups are enough
unfoldable pub tape_form : ℕ → List ℕ
unfolding tape_bytes pick
tape_form v = tape_bytes 9 v

-- the groups that are written are the groups that are read
written_groups : (k v : ℕ) (rest : List ℕ) → v < 128 ^ suc k → sevens (tape_bytes k v ++ rest) ≡ groups v (length (tape_bytes k v)) rest
unfolding tape_bytes lower
written_groups zero v rest h = group_last v rest (omega arith)
written_groups (suc k) v rest h =
    pick_ind (λ (l : List ℕ). sevens (l ++ rest) ≡ groups v (length l) rest) (ltb v 128) _ _
    (λ e. group_last v rest (ltb-true v 128 e))
    (λ e.
    let a : 128 + v % 128 - 128 + 128 * (v / 128) ≡ v = omega arith in
    rw (group_more (128 + v % 128) (tape_bytes k (v / 128) ++ rest) (omega arith), written_groups k (v / 128) rest (omega arith), a))

-- what is written begins with a group
written_some : (k v : ℕ) → 0 < length (tape_bytes k v)
unfolding tape_bytes
written_some zero v = omega arith
written_some (suc k) v = pick_ind (λ (l : List ℕ). 0 < length l) (ltb v 128) _ _ (λ e. omega arith) (λ e. omega arith)

-- what is written is the shortest form of a number other than 0
written_shortest : (k v : ℕ) → v < 128 ^ suc k → 0 < v → 128 ^ (length (tape_bytes k v) - 1) ≤ v
unfolding tape_bytes
written_shortest zero v h z = omega arith
written_shortest (suc k) v h z =
    pick_ind (λ (l : List ℕ). 128 ^ (length l - 1) ≤ v) (ltb v 128) _ _
    (λ e. omega arith)
    (λ e.
    let b : 128 ≤ v = ltb-false v 128 e in
    let n : suc (length (tape_bytes k (v / 128))) - 1 ≡ suc (length (tape_bytes k (v / 128)) - 1) = omega (arith, written_some k (v / 128)) in
    rw n (omega (arith, written_shortest k (v / 128) (omega arith) (omega arith))))

-- a number below 128 is one group
written_small : (k v : ℕ) → v < 128 → tape_bytes k v ≡ v ∷ []
unfolding tape_bytes pick
written_small zero v h = refl
written_small (suc k) v h = rw (lt-ltb v 128 h)

-- what is written has the form that is read
written_regular : (k v : ℕ) → v < 128 ^ suc k → v < 2 ^ 64 → regular v (length (tape_bytes k v)) ≡ true
unfolding regular
written_regular k v h l =
    rw (lt-ltb v (2 ^ 64) l)
    (⊎_elim
    (λ z. rw (written_small k v (omega arith)))
    (λ z. rw (le-leb (128 ^ (length (tape_bytes k v) - 1)) v (written_shortest k v h z), or-true))
    (eq-zero-or-pos v))

-- what is written is read back, whatever stands before it and after it
pub number_written : (v : ℕ) (front rest : List ℕ) → v < 2 ^ 64
    → tape_number_at (front ++ (tape_form v ++ rest)) (length front) ≡ Some (v, (length front + length (tape_form v)))
unfolding tape_number_at number_in tape_form pick
number_written v front rest h =
    let a : v < 128 ^ 10 = omega arith in
    let l = tape_bytes 9 v in
    let n : length (front ++ (l ++ rest)) - length rest ≡ length front + length l =
    omega (arith, length-append front (l ++ rest), length-append l rest) in
    rw (drop-append_seam front (l ++ rest), written_groups 9 v rest a, written_regular 9 v a h, n)

-- the groups that are written are bytes
written_bytes : (k v : ℕ) → v < 128 ^ suc k → (i : ℕ) → get_or (tape_bytes k v) i 0 < 256
unfolding tape_bytes
written_bytes zero v h zero = omega arith
written_bytes zero v h (suc i) = omega arith
written_bytes (suc k) v h zero =
    pick_ind (λ (l : List ℕ). get_or l 0 0 < 256) (ltb v 128) _ _ (λ e. omega (arith, ltb-true v 128 e)) (λ e. omega arith)
written_bytes (suc k) v h (suc i) =
    pick_ind (λ (l : List ℕ). get_or l (suc i) 0 < 256) (ltb v 128) _ _ (λ e. omega arith) (λ e. written_bytes k (v / 128) (omega arith) i)

-- a group in front of groups that have the form that is written has it too
more_form : (b : ℕ) (l r : List ℕ) (w m k : ℕ) → 128 ≤ b → b < 256 → 0 < m → 128 ^ m ≤ b - 128 + 128 * w → suc m ≤ suc k
    → ((j : ℕ) → (m ≢ 1 → 128 ^ (m - 1) ≤ w) → m ≤ suc j → l ≡ tape_bytes j w ++ r)
    → b ∷ l ≡ tape_bytes k (b - 128 + 128 * w) ++ r
unfolding tape_bytes pick
more_form b l r w m zero high small some short fuel f = absurd (omega arith)
more_form b l r w m (suc k) high small some short fuel f =
    let v = b - 128 + 128 * w in
    let p : 128 ^ (m - 1) ≤ w = let q : m ≡ suc (m - 1) = omega arith in omega (arith, rw q at short) in
    let o : 1 ≤ 128 ^ (m - 1) = one-le-pow (m - 1) 128 (omega arith) in
    let d : 128 + v % 128 ≡ b = omega arith in
    let e : v / 128 ≡ w = omega arith in
    rw (le-ltb v 128 (omega arith), d, e) (ap (λ (t : List ℕ). b ∷ t) (f k (λ _. p) (omega arith)))

-- bytes whose groups have no 0 on top are the form that is written
only_form : (l r : List ℕ) (v n k : ℕ) → ((i : ℕ) → get_or l i 0 < 256) → sevens l ≡ groups v n r → (n ≢ 1 → 128 ^ (n - 1) ≤ v) → n ≤ suc k
    → l ≡ tape_bytes k v ++ r
unfolding sevens lower
only_form [] r v n k bytes = λ e s f. let z : ◌≡◌ {A = ℕ} 0 1 = cc in absurd (omega arith)
only_form (b ∷ l) r v n k bytes =
    pick_ind (λ (g : Groups). g ≡ groups v n r → (n ≢ 1 → 128 ^ (n - 1) ≤ v) → n ≤ suc k → b ∷ l ≡ tape_bytes k v ++ r) (ltb b 128)
    (groups b 1 l) (lower (b - 128) (sevens l))
    (λ h e s f.
    let a : v ≡ b = cc in
    let c : r ≡ l = cc in
    rw (a, c, written_small k b (ltb-true b 128 h)))
    (λ h. go (sevens l) refl (ltb-false b 128 h) (λ w m j. only_form l r w m j (λ i. bytes (suc i))))
  where
    go : (g : Groups) → sevens l ≡ g → 128 ≤ b
        → ((w m j : ℕ) → sevens l ≡ groups w m r → (m ≢ 1 → 128 ^ (m - 1) ≤ w) → m ≤ suc j → l ≡ tape_bytes j w ++ r)
        → lower (b - 128) g ≡ groups v n r → (n ≢ 1 → 128 ^ (n - 1) ≤ v) → n ≤ suc k → b ∷ l ≡ tape_bytes k v ++ r
    go cut q high ih e s f = let z : ◌≡◌ {A = ℕ} 0 1 = cc in absurd (omega arith)
    go (groups w m t) q high ih e s f =
        let a : v ≡ b - 128 + 128 * w = cc in
        let o : n ≡ suc m = cc in
        let c : sevens l ≡ groups w m r = cc in
        let some = (sevens_counted l r w m c).some in
        let y : n - 1 ≡ m = omega arith in
        rw a (more_form b l r w m k high (bytes 0) some (rw (y, a) at (s (λ x. omega (arith, some)))) (omega arith) (λ j. ih w m j c))

-- a number that is read from bytes stands there in the form that is written
pub number_shortest : (s : List ℕ) (at v next : ℕ) → ((i : ℕ) → get_or s i 0 < 256) → tape_number_at s at ≡ Some (v, next)
    → drop at s ≡ tape_form v ++ drop next s
unfolding tape_form
number_shortest s at v next bytes e =
    let p = number_is s at v next e in
    only_form (drop at s) (drop next s) v (next - at) 9 (λ i. rw get_or-drop (bytes (at + i))) p.same (regular_shortest v (next - at) p.form)
    (regular_few v (next - at) p.form)

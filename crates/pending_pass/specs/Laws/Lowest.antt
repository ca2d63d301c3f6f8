-- The lowest class for each face: a class joins by a walk over a set of faces, an entry joins those gone through, and what there is at
-- the end.
-- Assumes nothing.
use Rattle.std.specs.Prelude.{ℕ, zero, suc, ◌-◌, ◌≤◌, ◌<◌, min, ◌≡◌, Bool, ◌&&◌, ◌||◌, not, ◌≢◌, get_or, set, replicate, ltb}
use Rattle.std.proofs.Math.Path.{refl, sym, ap}
use Rattle.std.proofs.Common.{◌∙◌, true≢false, arith, length-set, get_or-set_same, get_or-set_other, ltb-true, ltb-false}
use Rattle.std.proofs.Math.Bool.{true, false}
use mathlib.Core.List.{List, [], ◌∷◌, ◌++◌, append-nil, append_assoc}
use Rattle.std.proofs.Math.Option.{Option, none, some}
use Rattle.std.proofs.Math.ListN.{length}
use Rattle.laws.specs.Pick.{pick}
use Rattle.laws.specs.Laws.Pick.{pick_yes, pick_no}
use Rattle.laws.specs.Lists.{on_at}
use Rattle.laws.specs.Places.Tab.{tab}
use Rattle.laws.specs.Laws.Tab.{length_on_at, tab_ext, tab_list}
use Rattle.faces.specs.Set.{has_face, with_face, faces_where}
use Rattle.faces.specs.Laws.Set.{where_has, where_ext, lowest_before, has_added_same, has_added_other}
use Rattle.faces.specs.Laws.Walk.{Walks, walk_has}
use Rattle.records.specs.Face.{is_face}
use Rattle.records.specs.Laws.Face.{face_yes}
use Rattle.records.specs.Laws.Place.{place_lt, place_some}
use Rattle.records.specs.Class.{Class, class_number, lower}
use Rattle.records.specs.Slots.{at_place, given, slot, is_some}
use Rattle.records.specs.Entry.{Entry}
use Rattle.pending_order.specs.Laws.Place.{same_or}
use Rattle.pending_entry.specs.Operations.{asking_faces}
use Rattle.pending_table.specs.declared.Facts.{Facts}
use Rattle.pending_table.specs.Operations.{nothing, facts_of}
use Rattle.pending_pass.specs.Lowest.{class_word, class_words, is_asked, meets_own, is_owed}
use Rattle.records.specs.Entry.{class_on}
use Rattle.pending_pass.specs.Places.Pass.{marked}
use Rattle.pending_pass.specs.Places.Lowering.{lower_word, Lowers, LowersTo, Lowest, LowestTo}
use Rattle.pending_pass.specs.Laws.Pass.{first_mark, kept, mark_count, count_less, first_there, marked_next, marked_none}

-- the number of the lower of two classes
lower_number : (c d : Class) → class_number (lower c d) ≡ min (class_number c) (class_number d)
unfolding lower pick
lower_number c d = go (ltb (class_number d) (class_number c)) refl
  where
    go : (b : Bool) → ltb (class_number d) (class_number c) ≡ b → class_number (pick b d c) ≡ min (class_number c) (class_number d)
    go true e = omega (arith, ltb-true (class_number d) (class_number c) e)
    go false e = omega (arith, ltb-false (class_number d) (class_number c) e)

-- a class with the lowest of others, if there are any
lower_given : (c : Class) (x : Option Class)
    → class_number (given c (lower c) x) ≡ lower_word (is_some x) (given 0 class_number x) (class_number c)
unfolding given is_some lower_word pick
lower_given c none = refl
lower_given c (some d) = lower_number c d ∙ omega arith

-- in which order two classes join does not matter
lower_twice : (b h : Bool) (w a c : ℕ)
    → lower_word (b || h) (pick b (lower_word h w c) w) a ≡ pick b (lower_word true (lower_word h w a) c) (lower_word h w a)
unfolding lower_word pick
lower_twice true true w a c = omega arith
lower_twice true false w a c = omega arith
lower_twice false h w a c = refl

-- a class before others: what one more among the others makes of the number of the lowest
number_step : (p b : Bool) (a c : Class) (x y : Option Class) → is_some y ≡ (b || is_some x)
    → given 0 class_number y ≡ pick b (lower_word (is_some x) (given 0 class_number x) (class_number c)) (given 0 class_number x)
    → given 0 class_number (pick p (some (given a (lower a) y)) y)
    ≡ pick b (lower_word (is_some (pick p (some (given a (lower a) x)) x)) (given 0 class_number (pick p (some (given a (lower a) x)) x))
    (class_number c))
    (given 0 class_number (pick p (some (given a (lower a) x)) x))
unfolding given is_some pick
number_step true b a c x y h k =
    let n = given 0 class_number x in
    let q : lower_word (is_some y) (given 0 class_number y) (class_number a)
    ≡ lower_word (b || is_some x) (pick b (lower_word (is_some x) n (class_number c)) n) (class_number a) = rw (h, k) in
    lower_given a y ∙ q ∙ lower_twice b (is_some x) n (class_number a) (class_number c)
    ∙ ap (λ (z : ℕ). pick b (lower_word true z (class_number c)) z) (sym (lower_given a x))
number_step false b a c x y h k = k

module _ (f : ℕ) where
  -- whether some entry has a request on a face, with one more entry
  asked_more : (es : List Entry) (e : Entry) → is_asked (es ++ (e ∷ [])) f ≡ (is_some (slot f e.requests) || is_asked es f)
  unfolding is_asked class_on is_some pick
  asked_more [] e = go (is_some (slot f e.requests))
    where
      go : (b : Bool) → is_some (pick b (some (given e.cls (lower e.cls) none)) none) ≡ (b || false)
      go true = refl
      go false = refl
  asked_more (a ∷ es) e = go (is_some (slot f a.requests)) (is_some (slot f e.requests)) (asked_more es e)
    where
      go : (p b : Bool) → is_some (class_on f (es ++ (e ∷ []))) ≡ (b || is_some (class_on f es))
          → is_some (pick p (some (given a.cls (lower a.cls) (class_on f (es ++ (e ∷ []))))) (class_on f (es ++ (e ∷ []))))
          ≡ (b || is_some (pick p (some (given a.cls (lower a.cls) (class_on f es))) (class_on f es)))
      go true true h = refl
      go true false h = refl
      go false b h = h

  -- and the number of their lowest class
  number_more : (es : List Entry) (e : Entry) → class_word f (es ++ (e ∷ []))
      ≡ pick (is_some (slot f e.requests)) (lower_word (is_asked es f) (class_word f es) (class_number e.cls)) (class_word f es)
  unfolding class_word is_asked class_on given lower_word is_some pick
  number_more [] e = go (is_some (slot f e.requests))
    where
      go : (b : Bool) → given 0 class_number (pick b (some e.cls) none) ≡ pick b (class_number e.cls) 0
      go true = refl
      go false = refl
  number_more (a ∷ es) e =
      number_step (is_some (slot f a.requests)) (is_some (slot f e.requests)) a.cls e.cls (class_on f es)
      (class_on f (es ++ (e ∷ [])))
      (asked_more es e) (number_more es e)

-- a choice by one test, twice
pick_twice : {A : Type 0} (b : Bool) (x y : A) → x ≡ pick b x (pick b y x)
unfolding pick
pick_twice true x y = refl
pick_twice false x y = refl

pick_or : (b h : Bool) → h ≡ pick b h (b || h)
unfolding pick
pick_or true h = refl
pick_or false h = refl

module _ (n set₀ class had : ℕ) (ws : List ℕ) where
  -- at the start all faces of the set are left
  pub lowers_start : length ws ≡ n → LowersTo n set₀ class had ws set₀ had ws
  lowers_start l = record {
    all = l;
    long = refl;
    part = λ f h. h;
    words = λ f _. pick_twice (has_face n set₀ f) _ _;
    have = λ f _. pick_or (has_face n set₀ f) (has_face n had f);
  }

  module _ (left face had' : ℕ) (ws' : List ℕ) (h : LowersTo n set₀ class had ws left had' ws') (a : Walks n left face) where
    -- a turn: the class joins for the lowest face
    pub lowers_turn : face ≤ n → (left'' had'' : ℕ) (ws'' : List ℕ) → has_face n left'' face ≡ false
        → ((g : ℕ) → g ≢ face → has_face n left'' g ≡ has_face n left g)
        → had'' ≡ with_face n had' face → ws'' ≡ set ws' (face - 1) (lower_word (has_face n had' face) (get_or ws' (face - 1) 0) class)
        → LowersTo n set₀ class had ws left'' had'' ws''
    lowers_turn k left'' had'' ws'' gone others e w =
        let there : has_face n left face ≡ true = walk_has a k in
        let is : is_face n face ≡ true = (face_yes n face).1 (a.first, k) in
        let inset : has_face n set₀ face ≡ true = h.part face there in
        let was : get_or ws' (face - 1) 0 ≡ get_or ws (face - 1) 0 = h.words face is ∙ pick_yes _ _ _ there in
        let old : has_face n had' face ≡ has_face n had face = h.have face is ∙ pick_yes _ _ _ there in
        record {
          all = h.all;
          long = ap length w ∙ length-set ws' (face - 1) _ ∙ h.long;
          part = λ f q. same_or f face (λ z. absurd (true≢false (sym q ∙ ap (has_face n left'') z ∙ gone)))
              (λ d. h.part f (sym (others f d) ∙ q));
          words = λ f y. same_or f face
              (λ z. rw (z, w) (get_or-set_same ws' (face - 1) _ 0 (omega (arith, h.long, h.all, a.first)) ∙ rw (was, old)
              (sym (pick_no _ _ _ gone ∙ pick_yes _ _ _ inset))))
              (λ d. rw w (get_or-set_other ws' (face - 1) (f - 1) _ 0 (λ q. d (omega (arith, (face_yes n f).0 y, a.first))))
              ∙ h.words f y ∙ rw (others f d));
          have = λ f y. same_or f face
              (λ z. rw (z, e) (has_added_same n had' face ∙ is ∙ sym (pick_no _ _ _ gone ∙ rw inset)))
              (λ d. rw e (has_added_other n had' face f d) ∙ h.have f y ∙ rw (others f d));
        }

    -- at the end it has joined for all
    pub lowers_end : n < face → Lowers n set₀ class had ws had' ws'
    lowers_end k =
        let none : ((f : ℕ) → is_face n f ≡ true → has_face n left f ≡ false) =
        (λ f y. lowest_before n left a.few f (omega (arith, (face_yes n f).0 y, a.lowest))) in
        record {
          long = h.long;
          words = λ f y. h.words f y ∙ pick_no _ _ _ (none f y);
          have = λ f y. h.have f y ∙ pick_no _ _ _ (none f y);
        }

module _ (n : ℕ) (ms : List Bool) (es : List Entry) where
  -- at the start no face has a class
  pub lowest_start : (had : ℕ) (ws : List ℕ) → length ms ≡ length es → length ws ≡ n → ((f : ℕ) → get_or ws f 0 ≡ 0)
      → ((f : ℕ) → has_face n had f ≡ false)
      → LowestTo n ms es ms had ws
  unfolding class_word class_on is_asked is_some given
  lowest_start had ws l m z h = record {
    done = [];
    split = refl;
    even = l;
    told = record { all = m; words = λ f _. z (f - 1); have = λ f _. h f };
  }

  module _ (ms' : List Bool) (had : ℕ) (ws : List ℕ) (h : LowestTo n ms es ms' had ws) where
    -- a turn: an entry joins
    lowest_turn : (k : ℕ) → k ≡ first_mark ms' → (e : Entry) → at_place k es ≡ some e → (asked class : ℕ) → asked ≡ asking_faces n e
        → class ≡ class_number e.cls
        → (had'' : ℕ) (ws'' : List ℕ) → Lowers n asked class had ws had'' ws'' → (ms'' : List Bool) → ms'' ≡ on_at k (λ _. false) ms'
        → LowestTo n ms es ms'' had'' ws''
    unfolding asking_faces
    lowest_turn k at e p asked class a c had'' ws'' t ms'' r =
        let here : first_mark ms' < length ms' = omega (arith, at, h.even, place_lt k es e p) in
        let q : at_place (first_mark ms') es ≡ some e = ap (λ (i : ℕ). at_place i es) (sym at) ∙ p in
        let m : ms'' ≡ kept ms' = r ∙ ap (λ (i : ℕ). on_at i (λ _. false) ms') at in
        let has : ((f : ℕ) → is_face n f ≡ true → has_face n asked f ≡ is_some (slot f e.requests)) = (λ f y. rw a (where_has n f _ y)) in
        record {
          done = h.done ++ (e ∷ []);
          split = h.split ∙ ap (λ (x : List Entry). h.done ++ x) (marked_next ms' es e q here)
              ∙ sym (append_assoc h.done (e ∷ []) (marked (kept ms') es)) ∙ rw m;
          even = ap length m ∙ length_on_at (first_mark ms') (λ _. false) ms' ∙ h.even;
          told = record {
            all = t.long ∙ h.told.all;
            words = λ f y. t.words f y ∙ rw (has f y, c, h.told.words f y, h.told.have f y) (sym (number_more f h.done e));
            have = λ f y. t.have f y ∙ rw (has f y, h.told.have f y) (sym (asked_more f h.done e));
          };
        }

    -- a turn, from what is said of the entry at a place
    pub lowest_next : (k : ℕ) → k ≡ first_mark ms' → k < length es → (asked : ℕ) → asked ≡ given 0 (asking_faces n) (at_place k es)
        → (facts : Facts) → facts ≡ given nothing facts_of (at_place k es)
        → (had'' : ℕ) (ws'' : List ℕ) → Lowers n asked facts.class had ws had'' ws'' → (ms'' : List Bool) → ms'' ≡ on_at k (λ _. false) ms'
        → LowestTo n ms es ms'' had'' ws''
    unfolding given facts_of
    lowest_next k at here asked a facts c had'' ws'' t ms'' r =
        let x = place_some k es here in
        let y : facts ≡ facts_of x.0 = c ∙ rw x.1 in
        lowest_turn k at x.0 x.1 asked facts.class (a ∙ rw x.1) (ap (λ (z : Facts). z.class) y) had'' ws'' t ms'' r

    -- each turn leaves fewer marks
    pub lowest_less : (k : ℕ) → k ≡ first_mark ms' → k < length es → (ms'' : List Bool) → ms'' ≡ on_at k (λ _. false) ms'
        → mark_count ms'' < mark_count ms'
    lowest_less k at here ms'' r =
        let there : first_mark ms' < length ms' = omega (arith, at, here, h.even) in
        rw (r, at) (count_less (first_mark ms') ms' (first_there ms' there))

    -- at the end all that were marked have joined
    pub lowest_end : (k : ℕ) → k ≡ first_mark ms' → length es ≤ k → Lowest n (marked ms es) had ws
    lowest_end k at l =
        let past : length ms' ≤ first_mark ms' = omega (arith, h.even, at, l) in
        let d : h.done ≡ marked ms es =
        sym (h.split ∙ ap (λ (x : List Entry). h.done ++ x) (marked_none ms' es past) ∙ append-nil h.done) in
        rw d at h.told

-- the words are those of the definition
pub lowest_words : (n : ℕ) (es : List Entry) (had : ℕ) (ws : List ℕ) → Lowest n es had ws → ws ≡ class_words n es
unfolding class_words
lowest_words n es had ws h =
    sym (tab_list ws 0) ∙ ap (tab (λ i. get_or ws i 0) 0) h.all
    ∙ tab_ext (λ i. get_or ws i 0) (λ i. class_word (suc i) es) 0 n
    (λ i _ l. let z : suc i - 1 ≡ i = omega arith in rw z at (h.words (suc i) ((face_yes n (suc i)).1 (omega arith, omega arith))))

-- the faces that a copy goes to: those that are asked, without those that are self-met
pub lowest_owed : (n f : ℕ) (ad_hoc : Bool) (es : List Entry) (had met copies : ℕ) (ws : List ℕ) → Lowest n es had ws
    → ((g : ℕ) → is_face n g ≡ true → has_face n met g ≡ meets_own f ad_hoc g)
    → copies ≡ faces_where n (λ g. has_face n had g && not (has_face n met g))
    → copies ≡ faces_where n (is_owed f ad_hoc es)
unfolding is_owed
lowest_owed n f ad_hoc es had met copies ws h m c = c ∙ where_ext n _ _ (λ g y. rw (h.have g y, m g y))

-- zeros are 0 at each place
pub zeros_at : (n f : ℕ) → ◌≡◌ {A = ℕ} (get_or (replicate n 0) f 0) 0
zeros_at zero f = refl
zeros_at (suc n) zero = refl
zeros_at (suc n) (suc f) = zeros_at n f

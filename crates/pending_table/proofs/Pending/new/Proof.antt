-- The table holds zeros alone, so that no row is used. The borrow checker does not cover the literal of a struct with arrays of arrays, so
-- that the code is followed here statement by statement: an array is filled with an element, and the last one makes the table.
use Rattle.std.proofs.Common.{ℕ, zero, suc, [], ◌∷◌, refl, arith, w8, w64}
use Rattle.std.proofs.raw_atomic.Walks.{proved}
use lib.ListN.{replicate, length-replicate}
use base.Fml.{ftrue}
use mir.Val.{Val, vint, vstruct, of_list}
use types.Kit.{‵, raw, ◌$◌, ◌∵◌, !, qed, done, drop, suffices}
use types.Part.{agg, rep}
use types.Run.{enter, lit, no_more, and_then, returns}
use types.ByLocal.{alloc_all, pass_all, free_all, look_at, get, sets}
use denote.Array.{Array, array_val, each, Array-Lawful}
use denote.Laws.{Is}
use denote.Plain.{UInt, uint_Lawful}
use denote.RattleType.{RattleType}
use denote.Shadow.{shadow}
use denote.Steps.{nothing, owned}
use denote.Struct.Laws.{makes, lawful}
use denote.Triple.Entry.{on_entry}
use denote.Triple.Walked.{says, walk_of, ends_at}
use Rattle.sizes.specs.Sizes.{most_faces, most_entries, most_name}
use Rattle.pending_table.specs.Places.View.{view_empty}
use Rattle.pending_table.specs.declared.Pending as table
use Rattle.pending_table.specs.contracts.Pending as Kind
use Rattle.pending_table.specs.contracts.Pending.new as f
use Rattle.pending_table.proofs.Pending.TheLaws as its
use Rattle.pending_table.proofs.Pending.new.Statement.{statement}
use Rattle.pending_table.proofs.Pending.new.Code as code

-- n times an element and n times its machine value are an array and its machine value
repeat_is : (R : RattleType) (x : R.Denot) (v : Val) → Is R x (v ∷ []) → (n : ℕ)
    → Is (Array R n) (replicate n x) (array_val (replicate n v) ∷ [])
repeat_is R x v p n = (replicate n v, ((refl, length-replicate n x), go n))
  where
    go : (m : ℕ) → shadow (each R.Denot R.own_val (replicate m x) (replicate m v))
    go zero = tt
    go (suc m) = (p, go m)

pub new_spec : {M : Type 1} → statement M
new_spec 𝓤 𝓛 𝓜 𝓡 wired =
    let c = f.clauses 𝓛 𝓜.mem 𝓡.returns in
    let W = walk_of 𝓛 f.ended tt c in
    -- a byte, a name and the names
    let u8 = UInt w8 in
    let Name = Array u8 most_name in
    let u8_typed = uint_Lawful 𝓛 w8 in
    let Name_typed = Array-Lawful 𝓛 u8 u8_typed most_name in
    let Names_typed = Array-Lawful 𝓛 Name Name_typed most_entries in
    let zero_byte = vint w8 0 in
    let name_val = array_val (replicate most_name zero_byte) in
    let names_val = array_val (replicate most_entries name_val) in
    let byte_is : Is u8 0 (zero_byte ∷ []) = (refl, omega arith) in
    let name_is = repeat_is u8 0 zero_byte byte_is most_name in
    let names_is = repeat_is Name (replicate most_name 0) name_val name_is most_entries in
    -- a word, a head and the heads
    let u64 = UInt w64 in
    let Head = Array u64 6 in
    let u64_typed = uint_Lawful 𝓛 w64 in
    let Head_typed = Array-Lawful 𝓛 u64 u64_typed 6 in
    let Heads_typed = Array-Lawful 𝓛 Head Head_typed most_entries in
    let zero_word = vint w64 0 in
    let head_val = array_val (replicate 6 zero_word) in
    let heads_val = array_val (replicate most_entries head_val) in
    let word_is : Is u64 0 (zero_word ∷ []) = (refl, omega arith) in
    let head_is = repeat_is u64 0 zero_word word_is 6 in
    let heads_is = repeat_is Head (replicate 6 0) head_val head_is most_entries in
    -- a face's records, an entry's and those of all entries
    let Face = Array u64 5 in
    let Entry = Array Face most_faces in
    let Face_typed = Array-Lawful 𝓛 u64 u64_typed 5 in
    let Entry_typed = Array-Lawful 𝓛 Face Face_typed most_faces in
    let Entries_typed = Array-Lawful 𝓛 Entry Entry_typed most_entries in
    let face_val = array_val (replicate 5 zero_word) in
    let entry_val = array_val (replicate most_faces face_val) in
    let entries_val = array_val (replicate most_entries entry_val) in
    let face_is = repeat_is u64 0 zero_word word_is 5 in
    let entry_is = repeat_is Face (replicate 5 0) face_val face_is most_faces in
    let entries_is = repeat_is Entry (replicate most_faces (replicate 5 0)) entry_val entry_is most_entries in
    -- the numbers
    let Numbers_typed = Array-Lawful 𝓛 u64 u64_typed most_entries in
    let numbers_val = array_val (replicate most_entries zero_word) in
    let numbers_is = repeat_is u64 0 zero_word word_is most_entries in
    -- the table
    let made : table.Pending = record {
      names = replicate most_entries (replicate most_name 0);
      heads = replicate most_entries (replicate 6 0);
      recs = replicate most_entries (replicate most_faces (replicate 5 0));
      numbers = replicate most_entries 0;
      used = 0;
    } in
    let made_val = vstruct (of_list (names_val ∷ heads_val ∷ entries_val ∷ numbers_val ∷ zero_word ∷ [])) in
    let made_is : Is Kind.the_row made (made_val ∷ []) = (
      (names_val ∷ [], (heads_val ∷ [], (entries_val ∷ [], (numbers_val ∷ [], (zero_word ∷ [], tt))))),
      (refl, (names_is, (heads_is, (entries_is, (numbers_is, (word_is, tt)))))),
    ) in
    proved 𝓛 f.ended tt c 𝓜 𝓡 tt f.Key.name code.function (code.unfolded 𝓤 𝓛.H 𝓜 𝓡 wired) (λ κs. tt) (λ κs. tt) (λ κs qs bounds a _ are.
    let y : W.Ghost = ((κs, qs, bounds, a, tt), tt) in
    qed 𝓛 (raw (on_entry 𝓛 f.signature κs qs a y.0.4) ∷ ‵ ftrue ∷ []) ∵ drop ! $ drop ! $
    enter ! _ _ _ _ _ $ alloc_all ! (λ l. pass_all ! refl tt $
    sets ! (rep ! most_name (lit ! tt)) refl (Name_typed.typed (replicate most_name 0) (name_val ∷ []) name_is).0 $
    sets ! (rep ! most_entries (get ! refl)) refl (Names_typed.typed (replicate most_entries (replicate most_name 0)) (names_val ∷ []) names_is).0 $
    sets ! (rep ! 6 (lit ! tt)) refl (Head_typed.typed (replicate 6 0) (head_val ∷ []) head_is).0 $
    sets ! (rep ! most_entries (get ! refl)) refl (Heads_typed.typed (replicate most_entries (replicate 6 0)) (heads_val ∷ []) heads_is).0 $
    sets ! (rep ! 5 (lit ! tt)) refl (Face_typed.typed (replicate 5 0) (face_val ∷ []) face_is).0 $
    sets ! (rep ! most_faces (get ! refl)) refl (Entry_typed.typed (replicate most_faces (replicate 5 0)) (entry_val ∷ []) entry_is).0 $
    sets ! (rep ! most_entries (get ! refl)) refl (Entries_typed.typed (replicate most_entries (replicate most_faces (replicate 5 0))) (entries_val ∷ []) entries_is).0 $
    sets ! (rep ! most_entries (lit ! tt)) refl (Numbers_typed.typed (replicate most_entries 0) (numbers_val ∷ []) numbers_is).0 $
    sets ! (agg ! (and_then ! (get ! refl) (and_then ! (get ! refl) (and_then ! (get ! refl) (and_then ! (get ! refl)
    (and_then ! (lit ! tt) (no_more !))))))) refl ((lawful Kind.the_type its.the_laws 𝓛).typed made (made_val ∷ []) made_is).0 $
    returns ! (look_at ! 0 refl) $ free_all ! refl $
    suffices ! _ (ends_at 𝓛 f.ended tt c y made_val made tt tt) $
    says ! (view_empty most_faces made.names made.heads made.recs made.numbers) $
    owned ! Kind.the_row (Is Kind.the_row) (makes Kind.the_type its.the_plain 𝓛) made (made_val ∷ []) made_is $
    nothing ! $ nothing ! $ done !))

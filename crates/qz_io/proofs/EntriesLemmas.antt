-- What entries hold after one is written in place or appended.
use Rattle.std.proofs.Common.{◌≡◌, ◌≢◌, ℕ, zero, suc, ◌<◌, ◌≤◌, Bool, true, false, cond, List, [], ◌∷◌, ◌++◌, Option, Some, None, Vec, length, set, get_or, refl, ap, sym, ◌∙◌, arith, string_bytes}
use Rattle.std.specs.Prelude.{find, option_map}
use Rattle.std.proofs.lemmas.Slice.Eq.{bytes_eq-Decides}
use Rattle.std.proofs.lemmas.Bool.{false_from_ne_true}
use Rattle.std.proofs.lemmas.Bool.Decides.{nat_tests}
use Rattle.std.proofs.lemmas.List.Folds.{find_at}
use Rattle.std.proofs.lemmas.Option.{slice_get_past}
use Rattle.std.specs.List.{position, position_or_len}
use Rattle.std.specs.declared.alloc.Global.{Global}
use Rattle.qz_io.specs.Entries.{Entry, has_name, held_in}

-- an entry with one name doesn't have another
pub has_name-other : (entry : Entry) (name other : List ℕ) → has_name name entry ≡ true → other ≢ name → has_name other entry ≡ false
has_name-other entry name other here differs =
    false_from_ne_true (has_name other entry) (λ also.
    differs (sym ((bytes_eq-Decides (string_bytes entry.0) other).0 also) ∙ (bytes_eq-Decides (string_bytes entry.0) name).0 here))

-- the bytes of an entry, if there is one
abbrev content_of : Option Entry → Option (List ℕ)
content_of found = option_map (λ entry. entry.1.items) found

-- behind one entry that comes first or not
later : (b : Bool) (x : Entry) (found also : Option Entry) → content_of found ≡ content_of also
    → content_of (cond b (Some x) found) ≡ content_of (cond b (Some x) also)
later true x found also same = refl
later false x found also same = same

-- a write in place changes nothing that is held under other names
pub held_in-set_other : (entries : List Entry) (i : ℕ) (entry : Entry) (content : Vec ℕ Global) (other : List ℕ)
    → i < length entries → entry ≡ get_or entries i entry → has_name other entry ≡ false
    → held_in (set entries i (entry.0, content)) other ≡ held_in entries other
held_in-set_other [] i entry content other below is differs = absurd (omega arith)
held_in-set_other (x ∷ entries) zero entry content other below is differs =
    let also : has_name other x ≡ false = rw is at differs in
    rw (differs, also) refl
held_in-set_other (x ∷ entries) (suc i) entry content other below is differs =
    later (has_name other x) x _ _ (held_in-set_other entries i entry content other (omega arith) is differs)

-- a write in place of the first entry with a name
pub held_in-set_same : (entries : List Entry) (i : ℕ) (entry : Entry) (content : Vec ℕ Global) (name : List ℕ)
    → i < length entries → entry ≡ get_or entries i entry → has_name name entry ≡ true
    → ((k : ℕ) → k < i → has_name name (get_or entries k entry) ≡ false)
    → held_in (set entries i (entry.0, content)) name ≡ Some content.items
held_in-set_same [] i entry content name below is here first = absurd (omega arith)
held_in-set_same (x ∷ entries) zero entry content name below is here first = rw here refl
held_in-set_same (x ∷ entries) (suc i) entry content name below is here first =
    let before : has_name name x ≡ false = first 0 (omega arith) in
    rw before (held_in-set_same entries i entry content name (omega arith) is here (λ k less. first (suc k) (omega arith)))

-- an entry at the end changes nothing that is held under other names
pub held_in-push_other : (entries : List Entry) (entry : Entry) (other : List ℕ) → has_name other entry ≡ false
    → held_in (entries ++ entry ∷ []) other ≡ held_in entries other
held_in-push_other [] entry other differs = rw differs refl
held_in-push_other (x ∷ entries) entry other differs =
    later (has_name other x) x _ _ (held_in-push_other entries entry other differs)

-- an entry at the end counts where there was none with its name
pub held_in-push_same : (entries : List Entry) (entry : Entry) (name : List ℕ) → held_in entries name ≡ None → has_name name entry ≡ true
    → held_in (entries ++ entry ∷ []) name ≡ Some entry.1.items
held_in-push_same [] entry name absent here = rw here refl
held_in-push_same (x ∷ entries) entry name absent here =
    elim (has_name name x) as (λ b. content_of (cond b (Some x) (find (has_name name) entries)) ≡ None
    → content_of (cond b (Some x) (find (has_name name) (entries ++ entry ∷ []))) ≡ Some entry.1.items) [
      | true ↦ λ wrong. cc
      | false ↦ λ none. held_in-push_same entries entry name none here
    ] absent

-- nothing is held under a name that has no place
pub held_in-no_place : (entries : List Entry) (name : List ℕ) → position (has_name name) entries ≡ None → held_in entries name ≡ None
held_in-no_place entries name none =
    let past : length entries ≤ position_or_len (has_name name) entries = grind (arith, nat_tests) in
    ap content_of (find_at (has_name name) entries ∙ slice_get_past entries _ past)

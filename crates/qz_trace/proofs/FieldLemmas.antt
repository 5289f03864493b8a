-- The fields of a row's text, and what is at fault in fields.
use Rattle.std.proofs.Common.{arith, ◌≡◌, ℕ, zero, suc, ◌+◌, ◌<◌, ◌≤◌, List, [], ◌∷◌, ◌++◌, map, length, get_or, drop, drop-cons, drop_of_length-le, add-one, Result, Ok, Err, refl, sym, ap, ◌∙◌, subst, append_assoc, append-nil, inl, inr}
use Rattle.std.specs.List.{AllByRecursion, flat_map}
use Rattle.std.specs.Fmt.{decimal}
use Rattle.qz_values.specs.declared.Ty.{Ty}
use Rattle.qz_values.specs.Types.{IsType}
use Rattle.qz_trace.specs.declared.faults.TraceKind.{TraceKind}
use Rattle.qz_trace.specs.declared.faults.TraceKind.TheVariants.{End, Count, Form, Range}
use Rattle.qz_trace.specs.declared.faults.BadLine.{BadLine}
use Rattle.qz_trace.specs.declared.faults.BadLine.TheVariants.{Fault, Memory}
use Rattle.qz_trace.specs.Lines.{parts_of, fields_of, ended_line}
use Rattle.qz_trace.specs.Rows.{IsRow, row_text}
use Rattle.qz_trace.specs.Faults.{IsRightField, IsFieldsFault, IsLineFault}
use Rattle.qz_trace.specs.Reading.{IsFieldAnswer, AreTexts, IsFieldsAnswer, IsLineAnswer}
use Rattle.qz_trace.proofs.Decimals.{decimal_right, decimal_free, held}
use Rattle.qz_trace.proofs.PartLemmas.{parts_cut, parts_last, parts_joined, not_empty}

-- a field that is right, before what the others answer
pub fields_more : (t : Ty) (ts : List Ty) (f : List ℕ) (fs : List (List ℕ)) (old : List ℕ) (n : ℕ) (result : Result Unit BadLine) (new : List ℕ)
    → IsType t → IsFieldAnswer t f (Ok n) → IsFieldsAnswer ts fs (old ++ (n ∷ [])) result new → IsFieldsAnswer (t ∷ ts) (f ∷ fs) old result new
fields_more t ts f fs old n (Ok done) new is field (row, rows, texts, appended) =
    (n ∷ row, (field.0, rows), (field.1, texts), appended ∙ append_assoc old (n ∷ []) row)
fields_more t ts f fs old n (Err (Fault kind)) new is field fault =
    inr (subst (IsRightField t) (sym field.1) (decimal_right t n is field.0), fault)
fields_more t ts f fs old n (Err Memory) new is field fault = tt

-- a field at fault
pub fields_stop : (t : Ty) (ts : List Ty) (f : List ℕ) (fs : List (List ℕ)) (old : List ℕ) (kind : TraceKind) (new : List ℕ)
    → IsFieldAnswer t f (Err kind) → IsFieldsAnswer (t ∷ ts) (f ∷ fs) old (Err (Fault kind)) new
fields_stop t ts f fs old kind new fault = inl fault

-- fields aren't at fault for what is a line's fault
no_end : (ts : List Ty) (fs : List (List ℕ)) → IsFieldsFault ts fs End → ⊥
no_end [] fs fault = fault
no_end (t ∷ ts) [] fault = fault
no_end (t ∷ ts) (f ∷ fs) (inl here) = here
no_end (t ∷ ts) (f ∷ fs) (inr later) = no_end ts fs later.1

no_count : (ts : List Ty) (fs : List (List ℕ)) → IsFieldsFault ts fs Count → ⊥
no_count [] fs fault = fault
no_count (t ∷ ts) [] fault = fault
no_count (t ∷ ts) (f ∷ fs) (inl here) = here
no_count (t ∷ ts) (f ∷ fs) (inr later) = no_count ts fs later.1

pub line_fault : (ts : List Ty) (line : List ℕ) (fs : List (List ℕ)) (kind : TraceKind) → fields_of ts line ≡ fs → length fs ≡ length ts
    → IsFieldsFault ts fs kind → IsLineFault ts (ended_line line) kind
line_fault ts line fs End e count fault = absurd (no_end ts fs fault)
line_fault ts line fs Count e count fault = absurd (no_count ts fs fault)
line_fault ts line fs Form e count fault = (refl, ap length e ∙ count, subst (λ l. IsFieldsFault ts l Form) (sym e) fault)
line_fault ts line fs Range e count fault = (refl, ap length e ∙ count, subst (λ l. IsFieldsFault ts l Range) (sym e) fault)

texts_map : (fs : List (List ℕ)) (ns : List ℕ) → AreTexts fs ns → fs ≡ map decimal ns
texts_map [] [] are = refl
texts_map [] (n ∷ ns) are = absurd are
texts_map (f ∷ fs) [] are = absurd are
texts_map (f ∷ fs) (n ∷ ns) are = ap (λ l. l ∷ fs) are.0 ∙ ap (λ l. decimal n ∷ l) (texts_map fs ns are.1)

spaced : (ns : List ℕ) → flat_map (λ q. 32 ∷ q) (map decimal ns) ≡ flat_map (λ m. 32 ∷ decimal m) ns
spaced [] = refl
spaced (n ∷ ns) = ap (λ l. (32 ∷ decimal n) ++ l) (spaced ns)

-- a line whose parts are numbers' texts is their row's text
row_of_parts : (line : List ℕ) (ns : List ℕ) → parts_of 32 line ≡ map decimal ns → line ≡ row_text ns
row_of_parts line [] e = absurd (not_empty 32 line e)
row_of_parts line (n ∷ ns) e = parts_joined 32 line (decimal n) (map decimal ns) e ∙ ap (λ l. decimal n ++ l) (spaced ns)

pub line_answer : (ts : List Ty) (line : List ℕ) (fs : List (List ℕ)) (old : List ℕ) (result : Result Unit BadLine) (new : List ℕ)
    → parts_of 32 line ≡ fs → fields_of ts line ≡ fs → length fs ≡ length ts
    → IsFieldsAnswer ts fs old result new → IsLineAnswer ts line old result new
line_answer ts line fs old (Ok done) new parts e count (row, rows, texts, appended) =
    (row, rows, row_of_parts line row (parts ∙ texts_map fs row texts), appended)
line_answer ts line fs old (Err (Fault kind)) new parts e count fault = line_fault ts line fs kind e count fault
line_answer ts line fs old (Err Memory) new parts e count fault = tt

-- the parts of a row's text
pub row_parts : (ts : List Ty) (t : Ty) (n : ℕ) (ns : List ℕ) → AllByRecursion IsType (t ∷ ts) → IsRow (t ∷ ts) (n ∷ ns)
    → parts_of 32 (row_text (n ∷ ns)) ≡ map decimal (n ∷ ns)
row_parts [] t n [] types row =
    ap (parts_of 32) (append-nil (decimal n)) ∙ parts_last 32 (decimal n) (decimal_free 32 n (omega arith) (held t n types.0 row.0))
row_parts [] t n (m ∷ ns) types row = absurd row.1
row_parts (u ∷ ts) t n [] types row = absurd row.1
row_parts (u ∷ ts) t n (m ∷ ns) types row =
    parts_cut 32 (decimal n) (row_text (m ∷ ns)) (decimal_free 32 n (omega arith) (held t n types.0 row.0))
    ∙ ap (λ l. decimal n ∷ l) (row_parts ts u m ns types.1 row.1)

-- the fields of a row's text
pub row_fields : (ts : List Ty) (row : List ℕ) → AllByRecursion IsType ts → IsRow ts row → fields_of ts (row_text row) ≡ map decimal row
row_fields [] [] types is = refl
row_fields [] (n ∷ ns) types is = absurd is
row_fields (t ∷ ts) [] types is = absurd is
row_fields (t ∷ ts) (n ∷ ns) types is = row_parts ts t n ns types is

-- a line has the parts between its spaces as fields, unless it is that of a row without values
pub fields_are : (ts : List Ty) (line : List ℕ) → ((ts ≡ []) × (line ≡ []) → ⊥) → fields_of ts line ≡ parts_of 32 line
fields_are [] [] some = absurd (some (refl, refl))
fields_are [] (b ∷ bs) some = refl
fields_are (t ∷ ts) line some = refl

pub nth_type : (ts : List Ty) (i : ℕ) (d : Ty) → AllByRecursion IsType ts → i < length ts → IsType (get_or ts i d)
nth_type [] i d types within = absurd (omega (arith, within))
nth_type (t ∷ ts) zero d types within = types.0
nth_type (t ∷ ts) (suc i) d types within = nth_type ts i d types.1 (omega (arith, within))

-- the field at an index, before what the later ones answer
pub fields_at : (ts : List Ty) (fs : List (List ℕ)) (i : ℕ) (d : Ty) (f : List ℕ) (old : List ℕ) (n : ℕ) (result : Result Unit BadLine) (new : List ℕ)
    → AllByRecursion IsType ts → i < length ts → length fs ≡ length ts → IsFieldAnswer (get_or ts i d) (get_or fs i f) (Ok n)
    → IsFieldsAnswer (drop (i + 1) ts) (drop (i + 1) fs) (old ++ (n ∷ [])) result new → IsFieldsAnswer (drop i ts) (drop i fs) old result new
fields_at ts fs i d f old n result new types within count field later =
    rw (drop-cons ts i d within)
    (rw (drop-cons fs i f (omega (arith, within, count)))
    (fields_more (get_or ts i d) (drop (suc i) ts) (get_or fs i f) (drop (suc i) fs) old n result new (nth_type ts i d types within) field
    (subst (λ k. IsFieldsAnswer (drop k ts) (drop k fs) (old ++ (n ∷ [])) result new) (add-one i) later)))

pub fault_at : (ts : List Ty) (fs : List (List ℕ)) (i : ℕ) (d : Ty) (f : List ℕ) (old : List ℕ) (kind : TraceKind) (new : List ℕ)
    → i < length ts → length fs ≡ length ts → IsFieldAnswer (get_or ts i d) (get_or fs i f) (Err kind)
    → IsFieldsAnswer (drop i ts) (drop i fs) old (Err (Fault kind)) new
fault_at ts fs i d f old kind new within count fault =
    rw (drop-cons ts i d within)
    (rw (drop-cons fs i f (omega (arith, within, count)))
    (fields_stop (get_or ts i d) (drop (suc i) ts) (get_or fs i f) (drop (suc i) fs) old kind new fault))

-- after the last field
pub no_fields : (ts : List Ty) (fs : List (List ℕ)) (i : ℕ) (values : List ℕ) → length ts ≤ i → length fs ≡ length ts
    → IsFieldsAnswer (drop i ts) (drop i fs) values (Ok tt) values
no_fields ts fs i values past count =
    let far : length fs ≤ i = omega (arith, past, count) in
    rw (drop_of_length-le ts past) (rw (drop_of_length-le fs far) ([], tt, tt, sym (append-nil values)))

pub get_map : {A B : Type 0} (g : A → B) (l : List A) (i : ℕ) (d : A) → get_or (map g l) i (g d) ≡ g (get_or l i d)
get_map g [] i d = refl
get_map g (x ∷ l) zero d = refl
get_map g (x ∷ l) (suc i) d = get_map g l i d

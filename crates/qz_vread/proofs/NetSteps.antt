-- Lines after the list of ports, by how they begin.
use Rattle.std.proofs.Common.{arith, ◌≡◌, ◌↔◌, ℕ, zero, suc, ◌<◌, IsTrue, Bool, true, false, ◌==◌, List, [], ◌∷◌, ◌++◌, length, Option, Some, None, refl, inl, inr, sym, ap, ◌∙◌, codes}
use Rattle.std.specs.Prelude.{slice_get}
use Rattle.std.specs.Option.{option_map}
use Rattle.std.proofs.lemmas.Bool.{both_ways}
use Rattle.std.proofs.lemmas.List.{append_cancel_left, append_cancel_right}
use Rattle.qz_values.specs.declared.Ty.{Ty}
use Rattle.qz_syntax.specs.declared.declarations.Port.{Port}
use Rattle.qz_verilog.specs.declared.nets.Ref.{Ref}
use Rattle.qz_verilog.specs.Types.{NetTypes}
use Rattle.qz_verilog.specs.Validity.{IsNetOf}
use Rattle.qz_vtext.specs.Names.{name_text}
use Rattle.qz_vtext.specs.Spelling.{net_text, port_text}
use Rattle.qz_vtext.specs.Lines.{output_line}
use Rattle.qz_vread.specs.declared.drafts.Draft.{Draft}
use Rattle.qz_vread.specs.Parts.{IsSplit}
use Rattle.qz_vread.specs.Reading.{Reads}
use Rattle.qz_vread.specs.Drafts.{IsRegisterPart, IsWirePart, IsOutputOf, IsOutputStep, IsNetStep, Takes}
use Rattle.qz_vread.proofs.Splitting.{split_once, heads_differ}
use Rattle.qz_vread.proofs.Words.{name_words, words_lack}
use Rattle.qz_vread.proofs.Finding.{nothing_found}
use Rattle.qz_vread.proofs.Taking.{takes_same, wrapped}

-- a line after the wires begins neither as a register's nor as a wire's
record Front (line : List ℕ) : Type 0 where
  third : ℕ
  rest : List ℕ
  is : line ≡ codes "  " ++ (third ∷ rest)
  no_r : (third == 114) ≡ false
  no_w : (third == 119) ≡ false

after_front : (o : Option Port) (d : Draft) (line : List ℕ) (new : Draft) → IsOutputOf o d line new → Front line
after_front (Some port) d line new step = record { third = 97; rest = _; is = step.is; no_r = refl; no_w = refl }
after_front None d line new step = record { third = 105; rest = _; is = step.is; no_r = refl; no_w = refl }

output_front : (d : Draft) (line : List ℕ) (new : Draft) → IsOutputStep d line new → Front line
output_front d line new step = after_front (slice_get d.ports.outputs (length d.outs)) d line new step

pub register_taken : (old new : Draft) (line text : List ℕ) (taken : Bool) → line ≡ codes "  reg " ++ text → Takes (IsRegisterPart old text) new taken → Takes (IsNetStep old line) new taken
register_taken old new line text taken front takes = takes_same (IsRegisterPart old text) (IsNetStep old line) new taken takes to back
  where
    to : (d : Draft) → IsRegisterPart old text d → IsNetStep old line d
    to d part = inl (record { what = part.what; right = part.right; is = front ∙ ap (λ t. codes "  reg " ++ t) part.is; leads = part.leads })

    back : (d : Draft) → IsNetStep old line d → IsRegisterPart old text d
    back d (inl step) = record { what = step.what; right = step.right; is = append_cancel_left (codes "  reg ") text _ (sym front ∙ step.is); leads = step.leads }
    back d (inr (inl step)) = absurd (heads_differ 114 119 _ _ refl (append_cancel_left (codes "  ") _ _ (sym front ∙ step.is)))
    back d (inr (inr step)) =
        let f = output_front old line d step.output in
        absurd (heads_differ f.third 114 _ _ f.no_r (append_cancel_left (codes "  ") _ _ (sym f.is ∙ front)))

pub wire_taken : (old new : Draft) (line text : List ℕ) (taken : Bool) → line ≡ codes "  wire " ++ text → Takes (IsWirePart old text) new taken → Takes (IsNetStep old line) new taken
wire_taken old new line text taken front takes = takes_same (IsWirePart old text) (IsNetStep old line) new taken takes to back
  where
    to : (d : Draft) → IsWirePart old text d → IsNetStep old line d
    to d part = inr (inl (record { what = part.what; right = part.right; is = front ∙ ap (λ t. codes "  wire " ++ t) part.is; leads = part.leads }))

    back : (d : Draft) → IsNetStep old line d → IsWirePart old text d
    back d (inl step) = absurd (heads_differ 119 114 _ _ refl (append_cancel_left (codes "  ") _ _ (sym front ∙ step.is)))
    back d (inr (inl step)) = record { what = step.what; right = step.right; is = append_cancel_left (codes "  wire ") text _ (sym front ∙ step.is); leads = step.leads }
    back d (inr (inr step)) =
        let f = output_front old line d step.output in
        absurd (heads_differ f.third 119 _ _ f.no_w (append_cancel_left (codes "  ") _ _ (sym f.is ∙ front)))

-- by whether there is one more
pub some_case : {A : Type 0} (f : A → Ty) (P : Option A → Type 0) (o : Option A) (t : Ty) → Some t ≡ option_map f o → ((x : A) → o ≡ Some x → f x ≡ t → P (Some x)) → P o
some_case f P None t e more = absurd cc
some_case f P (Some x) t e more = more x refl (let same : t ≡ f x = cc in sym same)

pub none_case : {A : Type 0} (f : A → Ty) (P : Option A → Type 0) (o : Option A) → None ≡ option_map f o → P None → P o
none_case f P None e none = none
none_case f P (Some x) e none = absurd cc

-- what drives an output, after its name
record DriverCut (inputs : List Port) (port : Port) (spelled rest : List ℕ) (r : Ref) : Type 0 where
  name : spelled ≡ name_text port.name
  later : rest ≡ codes "= " ++ (net_text inputs r ++ codes ";")

driver_cut : (inputs : List Port) (port : Port) (line text spelled rest : List ℕ) (r : Ref) → line ≡ codes "  assign o_" ++ text → IsSplit 32 text spelled rest
    → line ≡ output_line inputs port r → DriverCut inputs port spelled rest r
driver_cut inputs port line text spelled rest r front split e =
    let tail = codes "= " ++ (net_text inputs r ++ codes ";") in
    let same : text ≡ name_text port.name ++ 32 ∷ tail = append_cancel_left (codes "  assign o_") text (name_text port.name ++ 32 ∷ tail) (sym front ∙ e) in
    let cut = split_once 32 spelled (name_text port.name) rest tail split.first (words_lack 32 (name_text port.name) refl (name_words port.name)) (sym split.whole ∙ same) in
    record { name = cut.before; later = cut.after }

abbrev Drives : NetTypes → List Port → Ty → Port → List ℕ → Option Ref → Type 0
Drives types inputs t port line found = Reads (IsNetOf types t) (output_line inputs port) line found

no_driver : (types : NetTypes) (inputs : List Port) (t : Ty) (port : Port) (line : List ℕ) → ((r : Ref) → line ≡ output_line inputs port r → ⊥) → Drives types inputs t port line None
no_driver types inputs t port line none = nothing_found (IsNetOf types t) (λ r. line ≡ output_line inputs port r) (λ r right e. none r e)

pub driver_other : (types : NetTypes) (inputs : List Port) (t : Ty) (port : Port) (line text spelled rest : List ℕ) → line ≡ codes "  assign o_" ++ text → IsSplit 32 text spelled rest
    → (spelled ≡ name_text port.name → ⊥) → Drives types inputs t port line None
driver_other types inputs t port line text spelled rest front split other =
    no_driver types inputs t port line (λ r e. other (driver_cut inputs port line text spelled rest r front split e).name)

pub driver_unclosed : (types : NetTypes) (inputs : List Port) (t : Ty) (port : Port) (line text spelled rest : List ℕ) → line ≡ codes "  assign o_" ++ text → IsSplit 32 text spelled rest
    → ((inner : List ℕ) → rest ≡ codes "= " ++ (inner ++ codes ";") → ⊥) → Drives types inputs t port line None
driver_unclosed types inputs t port line text spelled rest front split none =
    no_driver types inputs t port line (λ r e. none (net_text inputs r) (driver_cut inputs port line text spelled rest r front split e).later)

abbrev driving : Port → List ℕ → List ℕ
driving port x = codes "  assign o_" ++ (name_text port.name ++ (codes " = " ++ (x ++ codes ";")))

pub driver_read : (types : NetTypes) (inputs : List Port) (t : Ty) (port : Port) (line text spelled rest inner : List ℕ) (found : Option Ref) → line ≡ codes "  assign o_" ++ text
    → IsSplit 32 text spelled rest → spelled ≡ name_text port.name → rest ≡ codes "= " ++ (inner ++ codes ";") → Reads (IsNetOf types t) (net_text inputs) inner found
    → Drives types inputs t port line found
driver_read types inputs t port line text spelled rest inner found front split name closed read =
    wrapped (IsNetOf types t) (net_text inputs) (driving port) once line inner found whole read
  where
    once : (a b : List ℕ) → driving port a ≡ driving port b → a ≡ b
    once a b e =
        append_cancel_right a b (codes ";")
        (append_cancel_left (codes " = ") (a ++ codes ";") (b ++ codes ";")
        (append_cancel_left (name_text port.name) (codes " = " ++ (a ++ codes ";")) (codes " = " ++ (b ++ codes ";"))
        (append_cancel_left (codes "  assign o_") (name_text port.name ++ (codes " = " ++ (a ++ codes ";"))) (name_text port.name ++ (codes " = " ++ (b ++ codes ";"))) e)))

    whole : line ≡ driving port inner
    whole = front ∙ ap (λ x. codes "  assign o_" ++ x) (split.whole ∙ ap (λ x. x ++ 32 ∷ rest) name ∙ ap (λ x. name_text port.name ++ 32 ∷ x) closed)

-- the spelled name of the next output
record NamedOutput (outputs : List Port) (k : ℕ) (port : Port) : Type 0 where
  below : k < length outputs
  is : port_text outputs k ≡ name_text port.name

named_output : (outputs : List Port) (k : ℕ) (port : Port) → slice_get outputs k ≡ Some port → NamedOutput outputs k port
named_output [] k port e = absurd cc
named_output (p ∷ outputs) zero port e = let same : p ≡ port = cc in record { below = omega arith; is = ap (λ (q : Port). name_text q.name) same }
named_output (p ∷ outputs) (suc k) port e = let later = named_output outputs k port e in record { below = (let b = later.below in omega arith); is = later.is }

abbrev IsOutputAt : List Port → List ℕ → ℕ → Type 0
IsOutputAt outputs spelled k = (k < length outputs) × (spelled ≡ port_text outputs k)

pub its_name : (outputs : List Port) (spelled : List ℕ) (k n : ℕ) (port : Port) (is_output : Bool) → k ≡ n → slice_get outputs n ≡ Some port
    → IsTrue is_output ↔ IsOutputAt outputs spelled k → is_output ≡ true → spelled ≡ name_text port.name
its_name outputs spelled k n port is_output same e iff t =
    let here = named_output outputs n port e in
    (iff.0 t).1 ∙ ap (port_text outputs) same ∙ here.is

pub not_its_name : (outputs : List Port) (spelled : List ℕ) (k n : ℕ) (port : Port) (is_output : Bool) → k ≡ n → slice_get outputs n ≡ Some port
    → IsTrue is_output ↔ IsOutputAt outputs spelled k → is_output ≡ false → spelled ≡ name_text port.name → ⊥
not_its_name outputs spelled k n port is_output same e iff f name =
    let here = named_output outputs n port e in
    let below : k < length outputs = (let b = here.below in omega arith) in
    both_ways is_output f (iff.1 (below, name ∙ sym here.is ∙ ap (port_text outputs) (sym same)))

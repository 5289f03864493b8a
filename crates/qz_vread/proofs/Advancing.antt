-- What a line more makes of what was read.
use Rattle.std.proofs.Common.{◌≡◌, ℕ, ◌+◌, Bool, true, false, not, List, [], ◌∷◌, ◌++◌, Option, Some, None, length, map, codes, refl, inl, inr, sym, ap, ◌∙◌, subst, arith, append_assoc, append-nil}
use Rattle.std.specs.List.{AllByRecursion}
use Rattle.std.specs.Prelude.{slice_get}
use Rattle.std.proofs.lemmas.List.{map-append}
use Rattle.std.proofs.lemmas.Bool.{and_parts, and_from, or_parts, or_from, not-true, not_from_false, false_from_ne_true, both_ways}
use Rattle.std.proofs.lemmas.Slice.Eq.{bytes_eq-Decides}
use Rattle.std.specs.Str.{bytes_eq}
use Rattle.qz_values.specs.declared.Ty.{Ty}
use Rattle.qz_values.specs.declared.Value.{Value}
use Rattle.qz_values.specs.Types.{IsType}
use Rattle.qz_values.specs.Values.{type_of, default_of}
use Rattle.qz_syntax.specs.declared.declarations.Port.{Port}
use Rattle.qz_syntax.specs.DoubleNames.{are_distinct, is_among}
use Rattle.qz_verilog.specs.declared.nets.Ref.{Ref}
use Rattle.qz_verilog.specs.declared.nets.Rhs.{Rhs}
use Rattle.qz_verilog.specs.Types.{NetTypes}
use Rattle.qz_verilog.specs.Validity.{port_names, port_types, register_types, wire_types, declared_types, with_wire, IsWire, AreWires}
use Rattle.qz_vread.specs.declared.drafts.Draft.{Draft}
use Rattle.qz_vread.specs.declared.drafts.Stage.{Stage}
use Rattle.qz_vread.specs.declared.drafts.Stage.TheVariants as stage
use Rattle.qz_vread.specs.PortLists.{PortLists}
use Rattle.qz_vread.specs.Naming.{IsNamed}
use Rattle.qz_vread.specs.Drafts.{types_in, with_comma, after_port, with_input, with_output, IsLine, IsFixed, IsNewPort, IsNewInput, IsNewRegister, IsOutputOf, IsOutputStep, IsInitialOf, IsNextOf, IsStepAt, IsStep}
use Rattle.qz_vtext.specs.Lines.{module_line, input_text, output_text, listed, numbered, register_line, register_lines, wire_line, wire_lines, output_line, output_lines, initial_lines, next_lines}
use Rattle.qz_vread.specs.Drafted.{name_in, port_texts, with_commas, head_of, nets_of, outs_of, initial_of, written_at, written, AreFirst, AreAll, IsHead, Drives, Begins, Feeds, HasNoOuts, HasHead, HasOuts, HasValues, HasNexts, IsSoundAt, IsSound}

-- one more at the end
numbered_push : {A : Type 0} (lines : ℕ → A → List (List ℕ)) (n : ℕ) (xs : List A) (x : A)
    → numbered lines n (xs ++ x ∷ []) ≡ numbered lines n xs ++ lines (n + length xs) x
numbered_push lines n [] x = append-nil (lines n x) ∙ ap (λ k. lines k x) (omega arith)
numbered_push lines n (y ∷ ys) x =
    ap (λ ls. lines n y ++ ls) (numbered_push lines (n + 1) ys x)
    ∙ sym (append_assoc (lines n y) (numbered lines (n + 1) ys) (lines (n + 1 + length ys) x))
    ∙ ap (λ k. (lines n y ++ numbered lines (n + 1) ys) ++ lines k x) (omega arith)

pub numbered_first : {A : Type 0} (lines : ℕ → A → List (List ℕ)) (xs : List A) (x : A)
    → numbered lines 0 (xs ++ x ∷ []) ≡ numbered lines 0 xs ++ lines (length xs) x
numbered_first lines xs x = numbered_push lines 0 xs x ∙ ap (λ k. numbered lines 0 xs ++ lines k x) (omega arith)

listed_push : (first : List ℕ) (lines : List (List ℕ)) (last : List ℕ) → listed first (lines ++ last ∷ []) ≡ with_commas (first ∷ lines) ++ last ∷ []
listed_push first [] last = refl
listed_push first (next ∷ lines) last = ap (λ ls. (first ++ codes ",") ∷ ls) (listed_push next lines last)

none_there : {A : Type 0} (k : ℕ) (x : A) → slice_get {X = A} [] k ≡ Some x → ⊥
none_there k x e = cc

no_more : (inputs ports : List Port) → output_lines inputs ports [] ≡ []
no_more inputs [] = refl
no_more inputs (p ∷ ps) = refl

outputs_push : (inputs ports : List Port) (nets : List Ref) (port : Port) (net : Ref) → slice_get ports (length nets) ≡ Some port
    → output_lines inputs ports (nets ++ net ∷ []) ≡ output_lines inputs ports nets ++ output_line inputs port net ∷ []
outputs_push inputs [] nets port net e = absurd (none_there (length nets) port e)
outputs_push inputs (p ∷ ps) [] port net e = let same : p ≡ port = cc in let none : output_lines inputs ps [] ≡ [] = no_more inputs ps in rw (same, none) refl
outputs_push inputs (p ∷ ps) (n ∷ nets) port net e = ap (λ ls. output_line inputs p n ∷ ls) (outputs_push inputs ps nets port net e)

first_push : {A B : Type 0} (P : A → B → Type 0) (xs : List A) (ys : List B) (x : A) (y : B) → AreFirst P xs ys → slice_get xs (length ys) ≡ Some x → P x y
    → AreFirst P xs (ys ++ y ∷ [])
first_push P [] ys x y are e one = absurd (none_there (length ys) x e)
first_push P (z ∷ xs) [] x y are e one = (let same : x ≡ z = cc in let Q : _ → Type 0 = λ w. P w y in subst Q same one, tt)
first_push P (z ∷ xs) (w ∷ ys) x y are e one = (are.0, first_push P xs ys x y are.1 e one)

all_from_first : {A B : Type 0} (P : A → B → Type 0) (xs : List A) (ys : List B) → AreFirst P xs ys → slice_get xs (length ys) ≡ None → AreAll P xs ys
all_from_first P [] [] are e = tt
all_from_first P [] (y ∷ ys) are e = are
all_from_first P (x ∷ xs) [] are e = absurd cc
all_from_first P (x ∷ xs) (y ∷ ys) are e = (are.0, all_from_first P xs ys are.1 e)

pub all_push : {A : Type 0} (P : A → Type 0) (xs : List A) (x : A) → AllByRecursion P xs → P x → AllByRecursion P (xs ++ x ∷ [])
all_push P [] x all one = (one, tt)
all_push P (y ∷ ys) x all one = (all.0, all_push P ys x all.1 one)

among_push : (xs : List (List ℕ)) (n x : List ℕ) → is_among xs x ≡ false → bytes_eq n x ≡ false → is_among (xs ++ n ∷ []) x ≡ false
among_push [] n x none apart = rw apart refl
among_push (y ∷ ys) n x none apart =
    let parts = or_parts (bytes_eq y x) (is_among ys x) none in
    or_from (bytes_eq y x) (is_among (ys ++ n ∷ []) x) parts.0 (among_push ys n x parts.1 apart)

pub other_way : (a b : List ℕ) → bytes_eq a b ≡ false → bytes_eq b a ≡ false
other_way a b e = false_from_ne_true (bytes_eq b a) (λ same. both_ways (bytes_eq a b) e ((bytes_eq-Decides a b).1 (sym ((bytes_eq-Decides b a).0 same))))

pub distinct_push : (xs : List (List ℕ)) (n : List ℕ) → are_distinct xs ≡ true → is_among xs n ≡ false → are_distinct (xs ++ n ∷ []) ≡ true
distinct_push [] n apart none = refl
distinct_push (x ∷ xs) n apart none =
    let parts = and_parts (not (is_among xs x)) (are_distinct xs) apart in
    let others = or_parts (bytes_eq x n) (is_among xs n) none in
    and_from (not (is_among (xs ++ n ∷ []) x)) (are_distinct (xs ++ n ∷ []))
    (not_from_false (is_among (xs ++ n ∷ []) x) (among_push xs n x (not-true (is_among xs x) parts.0) (other_way x n others.0)))
    (distinct_push xs n parts.1 others.1)

wires_push : (types : NetTypes) (ws : List (Ty × Rhs)) (w : Ty × Rhs) → AreWires types ws → IsWire (record types { wires = types.wires ++ wire_types ws }) w → AreWires types (ws ++ w ∷ [])
wires_push types [] w are one = (let P : List Ty → Type 0 = λ ts. IsWire (record types { wires = ts }) w in subst P (append-nil types.wires) one, tt)
wires_push types (v ∷ vs) w are one = (
  are.0,
  wires_push (with_wire types v.0) vs w are.1
      (let P : List Ty → Type 0 = λ ts. IsWire (record types { wires = ts }) w in subst P (sym (append_assoc types.wires (v.0 ∷ []) (wire_types vs))) one),
)

-- ports that are right, and one more
head_push : (name : Option (List ℕ)) (old new : PortLists) (port : Port) → IsHead name old → new.inputs ++ new.outputs ≡ (old.inputs ++ old.outputs) ++ port ∷ []
    → AllByRecursion IsType (port_types new.inputs) → AllByRecursion IsType (port_types new.outputs) → IsNamed port.name
    → is_among (port_names (old.inputs ++ old.outputs)) port.name ≡ false → IsHead name new
head_push name old new port h all ins outs named fresh =
    let names : port_names (new.inputs ++ new.outputs) ≡ port_names (old.inputs ++ old.outputs) ++ port.name ∷ [] =
    ap port_names all ∙ map-append (λ (p : Port). p.name) (old.inputs ++ old.outputs) (port ∷ []) in
    record {
      characters = h.characters;
      some = h.some;
      named = h.named;
      names = (let P : List (List ℕ) → Type 0 = AllByRecursion IsNamed in subst P (sym names) (all_push IsNamed (port_names (old.inputs ++ old.outputs)) port.name h.names named));
      distinct = ap are_distinct names ∙ distinct_push (port_names (old.inputs ++ old.outputs)) port.name h.distinct fresh;
      inputs = ins;
      outputs = outs;
    }

types_push : (ports : List Port) (port : Port) → AllByRecursion IsType (port_types ports) → IsType port.ty → AllByRecursion IsType (port_types (ports ++ port ∷ []))
types_push ports port all one =
    let P : List Ty → Type 0 = AllByRecursion IsType in
    subst P (sym (map-append (λ (p : Port). p.ty) ports (port ∷ []))) (all_push IsType (port_types ports) port.ty all one)

-- a line more was read, and what is read stays right
pub record Advances (d : Draft) (line : List ℕ) (new : Draft) (before : List (List ℕ)) : Type 0 where
  pub sound : IsSound new
  pub lines : written new ≡ before ++ line ∷ []

moved : (d new next : Draft) (line text : List ℕ) (before : List (List ℕ)) → new ≡ next → line ≡ text → Advances d text next before → Advances d line new before
moved d new next line text before e f a =
    let P : Draft → Type 0 = λ n. Advances d line n before in
    let Q : List ℕ → Type 0 = λ t. Advances d t next before in
    subst P (sym e) (subst Q (sym f) a)

-- a line that leads to one draft
by_line : {X : Type 0} (fits : X → Type 0) (text : X → List ℕ) (next : X → Draft) (d new : Draft) (line : List ℕ) (before : List (List ℕ))
    → ((x : X) → fits x → Advances d (text x) (next x) before) → IsLine fits text next line new → Advances d line new before
by_line fits text next d new line before each step = moved d new (next step.what) line (text step.what) before step.leads step.is (each step.what step.right)

by_fixed : (text : List ℕ) (next d new : Draft) (line : List ℕ) (before : List (List ℕ)) → Advances d text next before → IsFixed text next line new → Advances d line new before
by_fixed text next d new line before one step = moved d new next line text before step.leads step.is one

name_advances : (d new : Draft) (line : List ℕ) → IsSoundAt stage.Name d → IsStepAt stage.Name d line new → Advances d line new (written_at stage.Name d)
name_advances d new line s step = by_line _ _ _ d new line _ each step
  where
    each : (name : List ℕ) → IsNamed name → Advances d (module_line name) (record d { stage = stage.Clock; name = Some name }) []
    each name named = record {
      sound = (
        record {
          head = record {
            characters = name;
            some = refl;
            named = named;
            names = rw (s.ports.inputs, s.ports.outputs) tt;
            distinct = rw (s.ports.inputs, s.ports.outputs) refl;
            inputs = rw s.ports.inputs tt;
            outputs = rw s.ports.outputs tt;
          };
          nets = record { registers = s.nets.registers; wires = s.nets.wires };
          outs = record { outs = s.outs.outs; values = s.outs.values; nexts = s.outs.nexts };
        },
        record { inputs = s.ports.inputs; outputs = s.ports.outputs },
      );
      lines = refl;
    }

head_stays : (d : Draft) (at : Stage) → HasHead d → HasHead (record d { stage = at })
head_stays d at s = record {
  head = s.head;
  nets = record { registers = s.nets.registers; wires = s.nets.wires };
  outs = record { outs = s.outs.outs; values = s.outs.values; nexts = s.outs.nexts };
}

head_moves : (d : Draft) (at : Stage) (lists : PortLists) → HasHead d → IsHead d.name lists → HasHead (record d { stage = at; ports = lists })
head_moves d at lists s head = record {
  head = head;
  nets = record { registers = s.nets.registers; wires = s.nets.wires };
  outs = record { outs = s.outs.outs; values = s.outs.values; nexts = s.outs.nexts };
}

outs_stay : (d : Draft) (at : Stage) → HasNoOuts d → HasNoOuts (record d { stage = at })
outs_stay d at s = record { outs = s.outs; values = s.values; nexts = s.nexts }

clock_advances : (d new : Draft) (line : List ℕ) → IsSoundAt stage.Clock d → IsStepAt stage.Clock d line new → Advances d line new (written_at stage.Clock d)
clock_advances d new line s step = by_line _ _ _ d new line _ each step
  where
    each : (more : Bool) → Unit {0} → Advances d (with_comma more (codes "  input clk")) (record d { stage = after_port more }) (written_at stage.Clock d)
    each true fits = record { sound = head_stays d stage.Port s.0; lines = rw (s.1.inputs, s.1.outputs) refl }
    each false fits = record { sound = head_stays d stage.PortsEnd s.0; lines = rw (s.1.inputs, s.1.outputs) refl }

-- the texts of the ports, of which there is one more
with_port : (name text : List ℕ) (texts more : List (List ℕ)) → more ≡ texts ++ text ∷ []
    → (module_line name ∷ with_commas (codes "  input clk" ∷ more)) ≡ (module_line name ∷ with_commas (codes "  input clk" ∷ texts)) ++ with_comma true text ∷ []
with_port name text texts more e =
    ap (λ ls. module_line name ∷ with_commas (codes "  input clk" ∷ ls)) e
    ∙ ap (λ ls. module_line name ∷ with_comma true (codes "  input clk") ∷ ls) (map-append (with_comma true) texts (text ∷ []))

with_last_port : (name text : List ℕ) (texts more : List (List ℕ)) → more ≡ texts ++ text ∷ []
    → (module_line name ∷ listed (codes "  input clk") more) ≡ (module_line name ∷ with_commas (codes "  input clk" ∷ texts)) ++ text ∷ []
with_last_port name text texts more e =
    ap (λ ls. module_line name ∷ listed (codes "  input clk") ls) e
    ∙ ap (λ ls. module_line name ∷ ls) (listed_push (codes "  input clk") texts text)

port_advances : (d new : Draft) (line : List ℕ) → IsSoundAt stage.Port d → IsStepAt stage.Port d line new → Advances d line new (written_at stage.Port d)
port_advances d new line s (inl step) = by_line _ _ _ d new line _ each step
  where
    head : (p : Port) → IsNewInput d p → IsHead d.name (record { inputs = d.ports.inputs ++ p ∷ []; outputs = d.ports.outputs })
    head p fits =
        head_push d.name d.ports (record { inputs = d.ports.inputs ++ p ∷ []; outputs = d.ports.outputs }) p s.head
        (rw fits.first (append-nil _ ∙ ap (λ ps. ps ++ p ∷ []) (sym (append-nil d.ports.inputs))))
        (types_push d.ports.inputs p s.head.inputs fits.new.typed) s.head.outputs fits.new.named fits.new.new

    texts : (p : Port) → IsNewInput d p → map input_text (d.ports.inputs ++ p ∷ []) ++ map output_text d.ports.outputs ≡ port_texts d.ports ++ input_text p ∷ []
    texts p fits =
        rw fits.first (append-nil _ ∙ map-append input_text d.ports.inputs (p ∷ []) ∙ ap (λ ls. ls ++ input_text p ∷ []) (sym (append-nil (map input_text d.ports.inputs))))

    each : (port : Port × Bool) → IsNewInput d port.0 → Advances d (with_comma port.1 (input_text port.0)) (with_input d port) (written_at stage.Port d)
    each (port, true) fits = record {
      sound = head_moves d stage.Port (record { inputs = d.ports.inputs ++ port ∷ []; outputs = d.ports.outputs }) s (head port fits);
      lines = with_port (name_in d.name) (input_text port) (port_texts d.ports) _ (texts port fits);
    }
    each (port, false) fits = record {
      sound = head_moves d stage.PortsEnd (record { inputs = d.ports.inputs ++ port ∷ []; outputs = d.ports.outputs }) s (head port fits);
      lines = with_last_port (name_in d.name) (input_text port) (port_texts d.ports) _ (texts port fits);
    }
port_advances d new line s (inr step) = by_line _ _ _ d new line _ each step
  where
    head : (p : Port) → IsNewPort d p → IsHead d.name (record { inputs = d.ports.inputs; outputs = d.ports.outputs ++ p ∷ [] })
    head p fits =
        head_push d.name d.ports (record { inputs = d.ports.inputs; outputs = d.ports.outputs ++ p ∷ [] }) p s.head
        (sym (append_assoc d.ports.inputs d.ports.outputs (p ∷ [])))
        s.head.inputs (types_push d.ports.outputs p s.head.outputs fits.typed) fits.named fits.new

    texts : (p : Port) → map input_text d.ports.inputs ++ map output_text (d.ports.outputs ++ p ∷ []) ≡ port_texts d.ports ++ output_text p ∷ []
    texts p =
        ap (λ ls. map input_text d.ports.inputs ++ ls) (map-append output_text d.ports.outputs (p ∷ []))
        ∙ sym (append_assoc (map input_text d.ports.inputs) (map output_text d.ports.outputs) (output_text p ∷ []))

    each : (port : Port × Bool) → IsNewPort d port.0 → Advances d (with_comma port.1 (output_text port.0)) (with_output d port) (written_at stage.Port d)
    each (port, true) fits = record {
      sound = head_moves d stage.Port (record { inputs = d.ports.inputs; outputs = d.ports.outputs ++ port ∷ [] }) s (head port fits);
      lines = with_port (name_in d.name) (output_text port) (port_texts d.ports) _ (texts port);
    }
    each (port, false) fits = record {
      sound = head_moves d stage.PortsEnd (record { inputs = d.ports.inputs; outputs = d.ports.outputs ++ port ∷ [] }) s (head port fits);
      lines = with_last_port (name_in d.name) (output_text port) (port_texts d.ports) _ (texts port);
    }

ports_end_advances : (d new : Draft) (line : List ℕ) → IsSoundAt stage.PortsEnd d → IsStepAt stage.PortsEnd d line new → Advances d line new (written_at stage.PortsEnd d)
ports_end_advances d new line s step = by_fixed _ _ d new line _ (record {
  sound = record {
    head = s.head;
    nets = record { typed = rw s.nets.registers tt; assigned = rw s.nets.wires tt };
    outs = outs_stay d stage.Net s.outs;
  };
  lines = rw (s.nets.registers, s.nets.wires) (append-nil _);
}) step

output_advances : (d new : Draft) (line : List ℕ) → HasOuts d → IsOutputStep d line new → Advances d line new (outs_of d)
output_advances d new line s step = by (slice_get d.ports.outputs (length d.outs)) refl step
  where
    by : (port : Option Port) → slice_get d.ports.outputs (length d.outs) ≡ port → IsOutputOf port d line new → Advances d line new (outs_of d)
    by (Some port) is step = by_line _ _ _ d new line _ (λ net typed. record {
      sound = record {
        head = s.head;
        nets = s.nets;
        outs = first_push (Drives (types_in d)) d.ports.outputs d.outs port net s.outs is typed;
        driven = s.driven;
        values = s.values;
        nexts = s.nexts;
      };
      lines = ap (λ ls. nets_of d ++ ls) (outputs_push d.ports.inputs d.ports.outputs d.outs port net is)
          ∙ sym (append_assoc (nets_of d) (output_lines d.ports.inputs d.ports.outputs d.outs) (output_line d.ports.inputs port net ∷ []));
    }) step
    by None is step = by_fixed _ _ d new line _ (record {
      sound = record {
        head = s.head;
        nets = s.nets;
        outs = all_from_first (Drives (types_in d)) d.ports.outputs d.outs s.outs is;
        values = rw s.values tt;
        nexts = s.nexts;
      };
      lines = rw s.values refl;
    }) step

net_advances : (d new : Draft) (line : List ℕ) → IsSoundAt stage.Net d → IsStepAt stage.Net d line new → Advances d line new (written_at stage.Net d)
net_advances d new line s (inl step) = by_line _ _ _ d new line _ each step
  where
    each : (t : Ty) → IsNewRegister d t → Advances d (register_line (length d.registers) t) (record d { stage = stage.Net; registers = d.registers ++ default_of t ∷ [] }) (nets_of d)
    each t fits = record {
      sound = record {
        head = s.head;
        nets = record {
          typed = (let P : List Ty → Type 0 = AllByRecursion IsType in
              subst P (sym (map-append type_of d.registers (default_of t ∷ []))) (all_push IsType (register_types d.registers) t s.nets.typed fits.typed));
          assigned = rw fits.first tt;
        };
        outs = record { outs = s.outs.outs; values = s.outs.values; nexts = s.outs.nexts };
      };
      lines =
          rw fits.first
          (ap (λ ls. head_of d ++ (ls ++ [])) (numbered_first register_lines d.registers (default_of t))
          ∙ ap (λ ls. head_of d ++ ls) (append-nil _)
          ∙ sym (append_assoc (head_of d) (numbered register_lines 0 d.registers) (register_line (length d.registers) t ∷ []))
          ∙ ap (λ ls. (head_of d ++ ls) ++ register_line (length d.registers) t ∷ []) (sym (append-nil _)));
    }
net_advances d new line s (inr (inl step)) = by_line _ _ _ d new line _ (λ t fits. record {
  sound = (record { head = s.head; nets = s.nets; outs = outs_stay d (stage.Assign t) s.outs }, fits);
  lines = refl;
}) step
net_advances d new line s (inr (inr step)) =
    let P : List (List ℕ) → Type 0 = Advances d line new in
    subst P (rw (s.outs.outs, no_more d.ports.inputs d.ports.outputs) (append-nil (nets_of d)))
    (output_advances d new line (record {
      head = s.head;
      nets = s.nets;
      outs = rw s.outs.outs tt;
      driven = step.driven;
      values = s.outs.values;
      nexts = s.outs.nexts;
    }) step.output)

assign_advances : (t : Ty) (d new : Draft) (line : List ℕ) → IsSoundAt (stage.Assign t) d → IsStepAt (stage.Assign t) d line new → Advances d line new (written_at (stage.Assign t) d)
assign_advances t d new line s step = by_line _ _ _ d new line _ (λ right typed. record {
  sound = record {
    head = s.0.head;
    nets = record {
      typed = s.0.nets.typed;
      assigned = wires_push (declared_types d.ports.inputs d.registers []) d.wires (t, right) s.0.nets.assigned typed;
    };
    outs = record { outs = s.0.outs.outs; values = s.0.outs.values; nexts = s.0.outs.nexts };
  };
  lines =
      ap (λ ls. head_of d ++ (numbered register_lines 0 d.registers ++ ls)) (numbered_first (wire_lines d.ports.inputs) d.wires (t, right))
      ∙ four (head_of d) (numbered register_lines 0 d.registers) (numbered (wire_lines d.ports.inputs) 0 d.wires) (wire_line (length d.wires) t) _;
}) step
  where
    four : (a b c : List (List ℕ)) (x y : List ℕ) → a ++ (b ++ (c ++ x ∷ y ∷ [])) ≡ ((a ++ (b ++ c)) ++ x ∷ []) ++ y ∷ []
    four a b c x y = simp append_assoc

initial_advances : (d new : Draft) (line : List ℕ) → HasValues d → IsStepAt stage.Initial d line new → Advances d line new (written_at stage.Initial d)
initial_advances d new line s step = by (slice_get d.registers (length d.values)) refl step
  where
    by : (register : Option Value) → slice_get d.registers (length d.values) ≡ register → IsInitialOf register d line new → Advances d line new (written_at stage.Initial d)
    by (Some register) is step = by_line _ _ _ d new line _ (λ value fits. record {
      sound = record {
        head = s.head;
        nets = s.nets;
        outs = s.outs;
        values = first_push Begins d.registers d.values register value s.values is fits;
        nexts = s.nexts;
      };
      lines =
          ap (λ ls. outs_of d ++ (codes "  initial begin" ∷ ls)) (numbered_first initial_lines d.values value)
          ∙ sym (append_assoc (outs_of d) (codes "  initial begin" ∷ numbered initial_lines 0 d.values) _);
    }) step
    by None is step = by_fixed _ _ d new line _ (record {
      sound = (
        record {
          head = s.head;
          nets = s.nets;
          outs = s.outs;
          values = all_from_first Begins d.registers d.values s.values is;
          nexts = rw s.nexts tt;
        },
        s.nexts,
      );
      lines = sym (append_assoc (outs_of d) (codes "  initial begin" ∷ numbered initial_lines 0 d.values) (codes "  end" ∷ []));
    }) step

always_advances : (d new : Draft) (line : List ℕ) → IsSoundAt stage.Always d → IsStepAt stage.Always d line new → Advances d line new (written_at stage.Always d)
always_advances d new line s step = by_fixed _ _ d new line _ (record {
  sound = record { head = s.0.head; nets = s.0.nets; outs = s.0.outs; values = s.0.values; nexts = s.0.nexts };
  lines = rw s.1 refl;
}) step

next_advances : (d new : Draft) (line : List ℕ) → HasNexts d → IsStepAt stage.Next d line new → Advances d line new (written_at stage.Next d)
next_advances d new line s step = by (slice_get d.registers (length d.nexts)) refl step
  where
    begun : List ℕ
    begun = codes "  always @(posedge clk) begin"

    by : (register : Option Value) → slice_get d.registers (length d.nexts) ≡ register → IsNextOf register d line new → Advances d line new (written_at stage.Next d)
    by (Some register) is step = by_line _ _ _ d new line _ (λ net fits. record {
      sound = record {
        head = s.head;
        nets = s.nets;
        outs = s.outs;
        values = s.values;
        nexts = first_push (Feeds (types_in d)) d.registers d.nexts register net s.nexts is fits;
      };
      lines =
          ap (λ ls. initial_of d ++ (codes "  always @(posedge clk) begin" ∷ ls)) (numbered_first (next_lines d.ports.inputs) d.nexts net)
          ∙ sym (append_assoc (initial_of d) (codes "  always @(posedge clk) begin" ∷ numbered (next_lines d.ports.inputs) 0 d.nexts) _);
    }) step
    by None is step = by_fixed _ _ d new line _ (record {
      sound = record {
        head = s.head;
        nets = s.nets;
        outs = s.outs;
        values = s.values;
        nexts = all_from_first (Feeds (types_in d)) d.registers d.nexts s.nexts is;
      };
      lines = sym (append_assoc (initial_of d) (codes "  always @(posedge clk) begin" ∷ numbered (next_lines d.ports.inputs) 0 d.nexts) (codes "  end" ∷ []));
    }) step

end_advances : (d new : Draft) (line : List ℕ) → IsSoundAt stage.ModuleEnd d → IsStepAt stage.ModuleEnd d line new → Advances d line new (written_at stage.ModuleEnd d)
end_advances d new line s step = by_fixed _ _ d new line _ (record {
  sound = record { head = s.head; nets = s.nets; outs = s.outs; values = s.values; nexts = s.nexts };
  lines = refl;
}) step

at_advances : (at : Stage) (d new : Draft) (line : List ℕ) → IsSoundAt at d → IsStepAt at d line new → Advances d line new (written_at at d)
at_advances stage.Name d new line s step = name_advances d new line s step
at_advances stage.Clock d new line s step = clock_advances d new line s step
at_advances stage.Port d new line s step = port_advances d new line s step
at_advances stage.PortsEnd d new line s step = ports_end_advances d new line s step
at_advances stage.Net d new line s step = net_advances d new line s step
at_advances (stage.Assign t) d new line s step = assign_advances t d new line s step
at_advances stage.Output d new line s step = output_advances d new line s step
at_advances stage.Initial d new line s step = initial_advances d new line s step
at_advances stage.Always d new line s step = always_advances d new line s step
at_advances stage.Next d new line s step = next_advances d new line s step
at_advances stage.ModuleEnd d new line s step = end_advances d new line s step
at_advances stage.Nothing d new line s step = absurd step

-- a line that can come next keeps a draft right, and is the last of its lines
pub advances : (d new : Draft) (line : List ℕ) → IsSound d → IsStep d line new → Advances d line new (written d)
advances d new line s step = at_advances d.stage d new line s step

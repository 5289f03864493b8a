-- Each draft can be finished: some lines take it to a module.
use Rattle.std.proofs.Common.{◌≡◌, ℕ, zero, suc, ◌+◌, ◌^◌, ◌<◌, false, List, [], ◌∷◌, ◌++◌, Some, None, length, map, codes, refl, inl, inr, sym, ap, ◌∙◌, subst, arith, append_assoc, append-nil, length-append, pow-suc}
use Rattle.std.specs.List.{AllByRecursion}
use Rattle.std.specs.Prelude.{slice_get, nat_lt, nat_le}
use Rattle.std.proofs.lemmas.List.{map-append}
use Rattle.std.proofs.lemmas.Bool.{and_from, le-leb, lt-ltb, cond-true}
use Rattle.qz_values.specs.declared.Ty.{Ty}
use Rattle.qz_values.specs.declared.Ty.TheVariants as ty
use Rattle.qz_values.specs.declared.Value.{Value}
use Rattle.qz_values.specs.Types.{IsType, width_of, is_type}
use Rattle.qz_values.specs.Values.{type_of, default_of}
use Rattle.qz_syntax.specs.declared.declarations.Port.{Port}
use Rattle.qz_verilog.specs.declared.nets.Ref.{Ref}
use Rattle.qz_verilog.specs.declared.nets.Ref.TheVariants as net
use Rattle.qz_verilog.specs.declared.nets.Rhs.{Rhs}
use Rattle.qz_verilog.specs.declared.nets.Rhs.TheVariants as rhs
use Rattle.qz_verilog.specs.Types.{NetTypes, net_type, right_side_type, is_value}
use Rattle.qz_verilog.specs.Validity.{port_names, port_types, register_types, wire_types}
use Rattle.qz_vread.specs.declared.drafts.Draft.{Draft}
use Rattle.qz_vread.specs.declared.drafts.Stage.{Stage}
use Rattle.qz_vread.specs.declared.drafts.Stage.TheVariants as stage
use Rattle.qz_vread.specs.Drafts.{types_in, HasNet, IsDriven, IsStep, with_output}
use Rattle.qz_vtext.specs.Lines.{module_line, output_text, wire_line, assign_line}
use Rattle.qz_vread.specs.Drafted.{AreFirst, AreAll, Drives, Begins, Feeds, IsHeadless, HasHead, HasNets, HasOuts, HasValues, HasNexts, IsSoundAt, IsSound, module_of}
use Rattle.qz_vread.proofs.Advancing.{advances}
use Rattle.qz_vread.specs.Leading.{Finish}
use Rattle.qz_vread.proofs.Paths.{zero_of, next_path, initial_path, output_path, after_wires}
use Rattle.qz_vread.proofs.Fresh.{fresh, fresh_is_new, fresh_named}

pow_positive : (w : ℕ) → 0 < 2 ^ w
pow_positive zero = omega arith
pow_positive (suc w) = let more = pow_positive w in omega (arith, pow-suc 2 w)

then_finish : (d : Draft) (line : List ℕ) (new : Draft) → IsStep d line new → Finish new → Finish d
then_finish d line new step f = record { lines = line ∷ f.lines; whole = f.whole; path = (new, (step, f.path)) }

-- what is still to come of some things
record Rest {A B : Type 0} (P : A → B → Type 0) (xs : List A) (ys : List B) : Type 0 where
  past : List A
  rest : List A
  split : past ++ rest ≡ xs
  len : length past ≡ length ys
  join : (more : List B) → AreAll P rest more → AreAll P xs (ys ++ more)

rest_of : {A B : Type 0} (P : A → B → Type 0) (xs : List A) (ys : List B) → AreFirst P xs ys → Rest P xs ys
rest_of P xs [] are = record { past = []; rest = xs; split = refl; len = refl; join = λ more all. all }
rest_of P [] (y ∷ ys) are = absurd are
rest_of P (x ∷ xs) (y ∷ ys) are =
    let r = rest_of P xs ys are.1 in
    record {
      past = x ∷ r.past;
      rest = r.rest;
      split = ap (λ zs. x ∷ zs) r.split;
      len = ap suc r.len;
      join = λ more all. (are.0, r.join more all);
    }

finish_end : (d : Draft) → Finish (record d { stage = stage.ModuleEnd })
finish_end d = record {
  lines = codes "endmodule" ∷ [];
  whole = module_of d;
  path = (record d { stage = stage.Nothing }, (record { is = refl; leads = refl }, (refl, refl)));
}

-- each register takes itself
abbrev registers_from : ℕ → List Value → List Ref
registers_from k [] = []
registers_from k (v ∷ vs) = net.Reg k ∷ registers_from (k + 1) vs

at_past : (past : List Value) (v : Value) (rest : List Value) (k : ℕ) → length past ≡ k → slice_get (register_types (past ++ v ∷ rest)) k ≡ Some (type_of v)
at_past past v rest k e = ap (slice_get (register_types (past ++ v ∷ rest))) (sym e) ∙ by past
  where
    by : (ps : List Value) → slice_get (register_types (ps ++ v ∷ rest)) (length ps) ≡ Some (type_of v)
    by [] = refl
    by (p ∷ ps) = by ps

feed_rest : (types : NetTypes) (past rest regs : List Value) (k : ℕ) → past ++ rest ≡ regs → length past ≡ k → types.registers ≡ register_types regs
    → AreAll (Feeds types) rest (registers_from k rest)
feed_rest types past [] regs k split len is = tt
feed_rest types past (v ∷ rest) regs k split len is = (
  ap (λ ts. slice_get ts k) (is ∙ ap register_types (sym split)) ∙ at_past past v rest k len,
  feed_rest types (past ++ v ∷ []) rest regs (k + 1) (append_assoc past (v ∷ []) rest ∙ split) (simp length-append (omega arith)) is,
)

finish_next : (d : Draft) → HasNexts d → Finish (record d { stage = stage.Next })
finish_next d s =
    let r = rest_of (Feeds (types_in d)) d.registers d.nexts s.nexts in
    let more = registers_from (length r.past) r.rest in
    let end = finish_end (record d { nexts = d.nexts ++ more }) in
    record {
      lines = _;
      whole = end.whole;
      path = next_path d end.lines end.whole (length d.nexts) r.past r.rest d.nexts more (d.nexts ++ more) r.split r.len refl refl
          (feed_rest (types_in d) r.past r.rest d.registers (length r.past) r.split refl refl) end.path;
    }

values_rest : (past rest regs : List Value) → past ++ rest ≡ regs → AllByRecursion IsType (register_types regs) → AreAll Begins rest (map zero_of rest)
values_rest [] [] regs split typed = tt
values_rest [] (v ∷ vs) regs split typed =
    let t : IsType (type_of v) × AllByRecursion IsType (register_types vs) =
    (let P : List Value → Type 0 = λ rs. AllByRecursion IsType (register_types rs) in subst P (sym split) typed) in
    ((record { typed = t.0; fits = positive (width_of (type_of v)) }, refl), values_rest [] vs vs refl t.1)
  where
    positive : (w : ℕ) → 0 < 2 ^ w
    positive w = pow_positive w
values_rest (p ∷ past) rest regs split typed =
    let t : IsType (type_of p) × AllByRecursion IsType (register_types (past ++ rest)) =
    (let P : List Value → Type 0 = λ rs. AllByRecursion IsType (register_types rs) in subst P (sym split) typed) in
    values_rest past rest (past ++ rest) refl t.1

finish_always : (d : Draft) → HasNexts d → Finish (record d { stage = stage.Always })
finish_always d s = then_finish _ _ (record d { stage = stage.Next }) (record { is = refl; leads = refl }) (finish_next d s)

finish_initial : (d : Draft) → HasValues d → Finish (record d { stage = stage.Initial })
finish_initial d s =
    let r = rest_of Begins d.registers d.values s.values in
    let more = map zero_of r.rest in
    let end = finish_always (record d { values = d.values ++ more }) (record {
      head = s.head;
      nets = s.nets;
      outs = s.outs;
      values = r.join more (values_rest r.past r.rest d.registers r.split s.nets.typed);
      nexts = rw s.nexts tt;
    }) in
    record {
      lines = _;
      whole = end.whole;
      path = initial_path d end.lines end.whole (length d.values) r.past r.rest d.values more (d.values ++ more) r.split r.len refl refl
          (values_rest r.past r.rest d.registers r.split s.nets.typed) end.path;
    }

-- nets that drive some outputs
record Drivers (types : NetTypes) (ports : List Port) : Type 0 where
  nets : List Ref
  drive : AreAll (Drives types) ports nets

drivers : (types : NetTypes) (past ports all : List Port) → past ++ ports ≡ all → AllByRecursion (HasNet types) (port_types all) → Drivers types ports
drivers types [] [] all split driven = record { nets = []; drive = tt }
drivers types [] (p ∷ ports) all split driven =
    let t : HasNet types p.ty × AllByRecursion (HasNet types) (port_types ports) =
    (let P : List Port → Type 0 = λ ps. AllByRecursion (HasNet types) (port_types ps) in subst P (sym split) driven) in
    let more = drivers types [] ports ports refl t.1 in
    record { nets = t.0.net ∷ more.nets; drive = (t.0.typed, more.drive) }
drivers types (q ∷ past) ports all split driven =
    let t : HasNet types q.ty × AllByRecursion (HasNet types) (port_types (past ++ ports)) =
    (let P : List Port → Type 0 = λ ps. AllByRecursion (HasNet types) (port_types ps) in subst P (sym split) driven) in
    drivers types past ports (past ++ ports) refl t.1

finish_output : (d : Draft) → HasOuts d → Finish (record d { stage = stage.Output })
finish_output d s =
    let r = rest_of (Drives (types_in d)) d.ports.outputs d.outs s.outs in
    let more = drivers (types_in d) r.past r.rest d.ports.outputs r.split s.driven in
    let end = finish_initial (record d { outs = d.outs ++ more.nets }) (record {
      head = s.head;
      nets = s.nets;
      outs = r.join more.nets more.drive;
      values = rw s.values tt;
      nexts = s.nexts;
    }) in
    record {
      lines = _;
      whole = end.whole;
      path = output_path d end.lines end.whole r.past r.rest d.outs more.nets (d.outs ++ more.nets) r.split r.len refl more.drive end.path;
    }

finish_driven : (d : Draft) → HasNets d → IsDriven d → Finish (record d { stage = stage.Net })
finish_driven d s driven =
    let end = finish_output (record d { outs = [] }) (record {
      head = s.head;
      nets = s.nets;
      outs = tt;
      driven = driven;
      values = s.outs.values;
      nexts = s.outs.nexts;
    }) in
    let P : List Ref → Type 0 = λ outs. Finish (record d { stage = stage.Net; outs = outs }) in
    subst P (sym s.outs.outs) (record { lines = end.lines; whole = end.whole; path = after_wires (record d { outs = [] }) end.lines end.whole refl driven end.path })

-- the constant 0 of a type
zero_right : (types : NetTypes) (t : Ty) → IsType t → right_side_type types (rhs.Const (default_of t)) ≡ Some t
zero_right types t is =
    cond-true (is_value (default_of t)) (Some t) None
    (and_from (is_type t) (nat_lt 0 (2 ^ width_of t))
    (and_from (nat_le 1 (width_of t)) (nat_le (width_of t) 64) (le-leb 1 (width_of t) is.at_least_1) (le-leb (width_of t) 64 is.at_most_64))
    (lt-ltb 0 (2 ^ width_of t) (positive (width_of t))))
  where
    positive : (w : ℕ) → 0 < 2 ^ w
    positive w = pow_positive w

abbrev with_zero : Draft → Ty → Draft
with_zero d t = record d { stage = stage.Net; wires = d.wires ++ (t, rhs.Const (default_of t)) ∷ [] }

get_front : (ts : List Ty) (u : Ty) (k : ℕ) (t : Ty) → slice_get ts k ≡ Some t → slice_get (ts ++ u ∷ []) k ≡ Some t
get_front [] u k t e = absurd cc
get_front (s ∷ ts) u zero t e = e
get_front (s ∷ ts) u (suc k) t e = get_front ts u k t e

get_last : (ts : List Ty) (u : Ty) → slice_get (ts ++ u ∷ []) (length ts) ≡ Some u
get_last [] u = refl
get_last (s ∷ ts) u = get_last ts u

still : (d : Draft) (t u : Ty) → HasNet (types_in d) u → HasNet (types_in (with_zero d t)) u
still d t u h = record { net = h.net; typed = by h.net h.typed }
  where
    wires : wire_types (d.wires ++ (t, rhs.Const (default_of t)) ∷ []) ≡ wire_types d.wires ++ t ∷ []
    wires = map-append (λ (w : Ty × Rhs). w.0) d.wires ((t, rhs.Const (default_of t)) ∷ [])

    by : (n : Ref) → net_type (types_in d) n ≡ Some u → net_type (types_in (with_zero d t)) n ≡ Some u
    by (net.Input k) e = e
    by (net.Reg k) e = e
    by (net.Wire k) e = ap (λ ts. slice_get ts k) wires ∙ get_front (wire_types d.wires) t k u e

now_there : (d : Draft) (t : Ty) → HasNet (types_in (with_zero d t)) t
now_there d t = record {
  net = net.Wire (length (wire_types d.wires));
  typed = ap (λ ts. slice_get ts (length (wire_types d.wires))) (map-append (λ (w : Ty × Rhs). w.0) d.wires ((t, rhs.Const (default_of t)) ∷ [])) ∙ get_last (wire_types d.wires) t;
}

all_still : (d : Draft) (t : Ty) (us : List Ty) → AllByRecursion (HasNet (types_in d)) us → AllByRecursion (HasNet (types_in (with_zero d t))) us
all_still d t [] all = tt
all_still d t (u ∷ us) all = (still d t u all.0, all_still d t us all.1)

all_push : (P : Ty → Type 0) (xs : List Ty) (x : Ty) → AllByRecursion P xs → P x → AllByRecursion P (xs ++ x ∷ [])
all_push P [] x all one = (one, tt)
all_push P (y ∷ ys) x all one = (all.0, all_push P ys x all.1 one)

sound_zero : (d : Draft) (t : Ty) → HasNets d → IsType t → HasNets (with_zero d t)
sound_zero d t s is =
    let declared : Draft = record d { stage = stage.Assign t } in
    (advances declared (with_zero d t) (assign_line d.ports.inputs (length d.wires) (rhs.Const (default_of t)))
    (record { head = s.head; nets = s.nets; outs = record { outs = s.outs.outs; values = s.outs.values; nexts = s.outs.nexts } }, is)
    (record { what = rhs.Const (default_of t); right = zero_right (types_in d) t is; is = refl; leads = refl })).sound

finish_assign : (d : Draft) (t : Ty) → IsType t → Finish (with_zero d t) → Finish (record d { stage = stage.Assign t })
finish_assign d t is f =
    then_finish _ (assign_line d.ports.inputs (length d.wires) (rhs.Const (default_of t))) (with_zero d t)
    (record { what = rhs.Const (default_of t); right = zero_right (types_in d) t is; is = refl; leads = refl }) f

-- wires are declared till each output has a net of its type
finish_wires : (more : List Ty) (d : Draft) (done : List Ty) → HasNets d → done ++ more ≡ port_types d.ports.outputs → AllByRecursion (HasNet (types_in d)) done
    → AllByRecursion IsType more → Finish (record d { stage = stage.Net })
finish_wires [] d done s split have typed =
    let P : List Ty → Type 0 = AllByRecursion (HasNet (types_in d)) in
    finish_driven d s (subst P (sym (append-nil done) ∙ split) have)
finish_wires (t ∷ more) d done s split have typed =
    then_finish _ (wire_line (length d.wires) t) (record d { stage = stage.Assign t }) (inr (inl (record { what = t; right = typed.0; is = refl; leads = refl })))
    (finish_assign d t typed.0
    (finish_wires more (with_zero d t) (done ++ t ∷ []) (sound_zero d t s typed.0) (append_assoc done (t ∷ []) more ∙ split)
    (all_push (HasNet (types_in (with_zero d t))) done t (all_still d t done have) (now_there d t)) typed.1))

finish_net : (d : Draft) → HasNets d → Finish (record d { stage = stage.Net })
finish_net d s = finish_wires (port_types d.ports.outputs) d [] s refl tt s.head.outputs

finish_ports : (d : Draft) → HasHead d → Finish (record d { stage = stage.PortsEnd })
finish_ports d s =
    let here : Draft = record d { stage = stage.PortsEnd } in
    let after : Draft = record d { stage = stage.Net } in
    then_finish here (codes ");") after (record { is = refl; leads = refl })
    (finish_net d (record {
      head = s.head;
      nets = record { typed = rw s.nets.registers tt; assigned = rw s.nets.wires tt };
      outs = s.outs;
    }))

abbrev new_output : Draft → Port
new_output d = record { name = fresh 27 (port_names (d.ports.inputs ++ d.ports.outputs)); ty = ty.Bool }

finish_port : (d : Draft) → HasHead d → length (port_names (d.ports.inputs ++ d.ports.outputs)) < 2 ^ 27 → Finish (record d { stage = stage.Port })
finish_port d s few =
    let here : Draft = record d { stage = stage.Port } in
    let after : Draft = with_output here (new_output d, false) in
    let step : IsStep here (output_text (new_output d)) after = inr (record {
      what = (new_output d, false);
      right = record {
        typed = record { at_least_1 = omega arith; at_most_64 = omega arith };
        named = fresh_named (port_names (d.ports.inputs ++ d.ports.outputs));
        new = fresh_is_new 27 (port_names (d.ports.inputs ++ d.ports.outputs)) few;
      };
      is = refl;
      leads = refl;
    }) in
    let sound : IsSound here = record { head = s.head; nets = record { registers = s.nets.registers; wires = s.nets.wires }; outs = record { outs = s.outs.outs; values = s.outs.values; nexts = s.outs.nexts } } in
    then_finish here (output_text (new_output d)) after step (finish_ports after (advances here after (output_text (new_output d)) sound step).sound)

finish_clock : (d : Draft) → HasHead d → Finish (record d { stage = stage.Clock })
finish_clock d s = then_finish _ (codes "  input clk") (record d { stage = stage.PortsEnd }) (record { what = false; right = tt; is = refl; leads = refl }) (finish_ports d s)

finish_name : (d : Draft) → IsHeadless d → Finish (record d { stage = stage.Name })
finish_name d s =
    let here : Draft = record d { stage = stage.Name } in
    let name = fresh 27 [] in
    let after : Draft = record d { stage = stage.Clock; name = Some name } in
    let step : IsStep here (module_line name) after = record { what = name; right = fresh_named []; is = refl; leads = refl } in
    let sound : IsSound here = record {
      ports = record { inputs = s.ports.inputs; outputs = s.ports.outputs };
      nets = record { registers = s.nets.registers; wires = s.nets.wires };
      outs = record { outs = s.outs.outs; values = s.outs.values; nexts = s.outs.nexts };
    } in
    then_finish here (module_line name) after step (finish_clock after (advances here after (module_line name) sound step).sound.0)

finish_at : (at : Stage) (d : Draft) → IsSoundAt at d → length (port_names (d.ports.inputs ++ d.ports.outputs)) < 2 ^ 27 → Finish (record d { stage = at })
finish_at stage.Name d s few = finish_name d s
finish_at stage.Clock d s few = finish_clock d s.0
finish_at stage.Port d s few = finish_port d s few
finish_at stage.PortsEnd d s few = finish_ports d s
finish_at stage.Net d s few = finish_net d s
finish_at (stage.Assign t) d s few = finish_assign d t s.1 (finish_net (with_zero d t) (sound_zero d t s.0 s.1))
finish_at stage.Output d s few = finish_output d s
finish_at stage.Initial d s few = finish_initial d s
finish_at stage.Always d s few = finish_always d s.0
finish_at stage.Next d s few = finish_next d s
finish_at stage.ModuleEnd d s few = finish_end d
finish_at stage.Nothing d s few = record { lines = []; whole = module_of d; path = (refl, refl) }

-- a draft that is right and hasn't too many ports can be finished
pub finish : (d : Draft) → IsSound d → length (port_names (d.ports.inputs ++ d.ports.outputs)) < 2 ^ 27 → Finish d
finish d s few = finish_at d.stage d s few

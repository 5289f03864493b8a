-- The lines of the list of ports, with a `,` at their end or none.
use Rattle.std.proofs.Common.{◌≡◌, ℕ, ◌-◌, Bool, true, false, not, ◌==◌, List, [], ◌∷◌, ◌++◌, refl, inl, inr, sym, ap, ◌∙◌, codes}
use Rattle.std.specs.Fmt.{decimal}
use Rattle.std.proofs.lemmas.List.{append_cancel_left, append_cancel_right}
use Rattle.qz_values.specs.declared.Ty.{Ty}
use Rattle.qz_values.specs.declared.Ty.TheVariants as ty
use Rattle.qz_syntax.specs.declared.declarations.Port.{Port}
use Rattle.qz_vtext.specs.Names.{name_text}
use Rattle.qz_vtext.specs.Spelling.{type_text}
use Rattle.qz_vtext.specs.Lines.{input_text, output_text}
use Rattle.qz_vread.specs.declared.drafts.Draft.{Draft}
use Rattle.qz_vread.specs.declared.drafts.Stage.{Stage}
use Rattle.qz_vread.specs.declared.drafts.Stage.TheVariants as stages
use Rattle.qz_vread.specs.Parts.{lacks, NoFront}
use Rattle.qz_vread.specs.Drafts.{IsComma, with_comma, after_port, IsFixed, IsInputPart, IsOutputPart, IsStepAt, Takes}
use Rattle.qz_vread.proofs.Words.{all-append, name_words, words_lack}
use Rattle.qz_vread.proofs.Splitting.{has_it, heads_differ}
use Rattle.qz_vread.proofs.RightSideLemmas.{decimal_lacks}
use Rattle.qz_vread.proofs.Taking.{takes_same, takes_nothing}

record SameComma (port text : List ℕ) (after : Stage) (more : Bool) : Type 0 where
  port_is : port ≡ text
  after_is : after ≡ after_port more

-- a line without a `,` in it and the `,` after it are cut in one way
comma_once : (line port : List ℕ) (after : Stage) (text : List ℕ) (more : Bool) → IsComma line port after → lacks 44 text ≡ true → line ≡ with_comma more text → SameComma port text after more
comma_once line port after text more is bare e = by is.more more is.whole e is.leads is.bare
  where
    by : (m n : Bool) → line ≡ with_comma m port → line ≡ with_comma n text → after ≡ after_port m → (m ≡ false → (front : List ℕ) → line ≡ front ++ codes "," → ⊥) → SameComma port text after n
    by true true f g leads none = record { port_is = append_cancel_right port text (codes ",") (sym f ∙ g); after_is = leads }
    by true false f g leads none = absurd (has_it 44 port [] (ap (lacks 44) (sym f ∙ g) ∙ bare))
    by false true f g leads none = absurd (none refl text g)
    by false false f g leads none = record { port_is = sym f ∙ g; after_is = leads }

abbrev bare : ℕ → Bool
bare byte = not (byte == 44)

type_lacks : (t : Ty) → lacks 44 (type_text t) ≡ true
type_lacks ty.Bool = refl
type_lacks (ty.Bv w) = all-append bare (codes "[") (decimal (w - 1) ++ codes ":0] ") refl (all-append bare (decimal (w - 1)) (codes ":0] ") (decimal_lacks 44 (w - 1) refl) refl)

port_lacks : (front mark : List ℕ) (port : Port) → lacks 44 front ≡ true → lacks 44 mark ≡ true → lacks 44 (front ++ (type_text port.ty ++ (mark ++ name_text port.name))) ≡ true
port_lacks front mark port f m =
    all-append bare front (type_text port.ty ++ (mark ++ name_text port.name)) f
    (all-append bare (type_text port.ty) (mark ++ name_text port.name) (type_lacks port.ty)
    (all-append bare mark (name_text port.name) m (words_lack 44 (name_text port.name) refl (name_words port.name))))

-- the line of the clock
pub clock_taken : (old new : Draft) (line port : List ℕ) (after : Stage) (taken : Bool) → IsComma line port after
    → Takes (IsFixed (codes "  input clk") (record old { stage = after }) port) new taken → Takes (IsStepAt stages.Clock old line) new taken
clock_taken old new line port after taken comma takes =
    takes_same (IsFixed (codes "  input clk") (record old { stage = after }) port) (IsStepAt stages.Clock old line) new taken takes to back
  where
    to : (d : Draft) → IsFixed (codes "  input clk") (record old { stage = after }) port d → IsStepAt stages.Clock old line d
    to d fixed = record {
      what = comma.more;
      right = tt;
      is = comma.whole ∙ ap (with_comma comma.more) fixed.is;
      leads = fixed.leads ∙ ap (λ (s : Stage). record old { stage = s }) comma.leads;
    }

    back : (d : Draft) → IsStepAt stages.Clock old line d → IsFixed (codes "  input clk") (record old { stage = after }) port d
    back d step =
        let same = comma_once line port after (codes "  input clk") step.what comma refl step.is in
        record { is = same.port_is; leads = step.leads ∙ ap (λ (s : Stage). record old { stage = s }) (sym same.after_is) }

pub input_taken : (old new : Draft) (line port text : List ℕ) (after : Stage) (taken : Bool) → IsComma line port after → port ≡ codes "  input " ++ text
    → Takes (IsInputPart old after text) new taken → Takes (IsStepAt stages.Port old line) new taken
input_taken old new line port text after taken comma front takes = takes_same (IsInputPart old after text) (IsStepAt stages.Port old line) new taken takes to back
  where
    to : (d : Draft) → IsInputPart old after text d → IsStepAt stages.Port old line d
    to d part = inl (record {
      what = (part.what, comma.more);
      right = part.right;
      is = comma.whole ∙ ap (with_comma comma.more) (front ∙ ap (λ t. codes "  input " ++ t) part.is);
      leads = part.leads ∙ ap (λ (s : Stage). record old { stage = s; ports = record { inputs = old.ports.inputs ++ part.what ∷ []; outputs = old.ports.outputs } }) comma.leads;
    })

    back : (d : Draft) → IsStepAt stages.Port old line d → IsInputPart old after text d
    back d (inl step) =
        let same = comma_once line port after (input_text step.what.0) step.what.1 comma (port_lacks (codes "  input ") (codes "i_") step.what.0 refl refl) step.is in
        record {
          what = step.what.0;
          right = step.right;
          is = append_cancel_left (codes "  input ") text _ (sym front ∙ same.port_is);
          leads = step.leads ∙ ap (λ (s : Stage). record old { stage = s; ports = record { inputs = old.ports.inputs ++ step.what.0 ∷ []; outputs = old.ports.outputs } }) (sym same.after_is);
        }
    back d (inr step) =
        let same = comma_once line port after (output_text step.what.0) step.what.1 comma (port_lacks (codes "  output ") (codes "o_") step.what.0 refl refl) step.is in
        absurd (heads_differ 105 111 _ _ refl (append_cancel_left (codes "  ") _ _ (sym front ∙ same.port_is)))

pub output_taken : (old new : Draft) (line port text : List ℕ) (after : Stage) (taken : Bool) → IsComma line port after → port ≡ codes "  output " ++ text
    → Takes (IsOutputPart old after text) new taken → Takes (IsStepAt stages.Port old line) new taken
output_taken old new line port text after taken comma front takes = takes_same (IsOutputPart old after text) (IsStepAt stages.Port old line) new taken takes to back
  where
    to : (d : Draft) → IsOutputPart old after text d → IsStepAt stages.Port old line d
    to d part = inr (record {
      what = (part.what, comma.more);
      right = part.right;
      is = comma.whole ∙ ap (with_comma comma.more) (front ∙ ap (λ t. codes "  output " ++ t) part.is);
      leads = part.leads ∙ ap (λ (s : Stage). record old { stage = s; ports = record { inputs = old.ports.inputs; outputs = old.ports.outputs ++ part.what ∷ [] } }) comma.leads;
    })

    back : (d : Draft) → IsStepAt stages.Port old line d → IsOutputPart old after text d
    back d (inl step) =
        let same = comma_once line port after (input_text step.what.0) step.what.1 comma (port_lacks (codes "  input ") (codes "i_") step.what.0 refl refl) step.is in
        absurd (heads_differ 111 105 _ _ refl (append_cancel_left (codes "  ") _ _ (sym front ∙ same.port_is)))
    back d (inr step) =
        let same = comma_once line port after (output_text step.what.0) step.what.1 comma (port_lacks (codes "  output ") (codes "o_") step.what.0 refl refl) step.is in
        record {
          what = step.what.0;
          right = step.right;
          is = append_cancel_left (codes "  output ") text _ (sym front ∙ same.port_is);
          leads = step.leads ∙ ap (λ (s : Stage). record old { stage = s; ports = record { inputs = old.ports.inputs; outputs = old.ports.outputs ++ step.what.0 ∷ [] } }) (sym same.after_is);
        }

-- neither an input nor an output
pub no_port : (old new : Draft) (line port : List ℕ) (after : Stage) → IsComma line port after → NoFront port (codes "  input ") → NoFront port (codes "  output ")
    → Takes (IsStepAt stages.Port old line) new false
no_port old new line port after comma no_input no_output = takes_nothing (IsStepAt stages.Port old line) new none
  where
    none : (d : Draft) → IsStepAt stages.Port old line d → ⊥
    none d (inl step) =
        let same = comma_once line port after (input_text step.what.0) step.what.1 comma (port_lacks (codes "  input ") (codes "i_") step.what.0 refl refl) step.is in
        no_input _ same.port_is
    none d (inr step) =
        let same = comma_once line port after (output_text step.what.0) step.what.1 comma (port_lacks (codes "  output ") (codes "o_") step.what.0 refl refl) step.is in
        no_output _ same.port_is

-- How the parts of a right side are cut.
use Rattle.std.proofs.Common.{◌≡◌, ℕ, ◌<◌, true, List, ◌∷◌, ◌++◌, Option, Some, None, IsTrue, refl, sym, ap, ◌∙◌, codes}
use Rattle.std.specs.Fmt.{decimal}
use Rattle.std.proofs.lemmas.List.{append_cancel_left, append_cancel_right}
use Rattle.qz_values.specs.declared.Op2.{Op2}
use Rattle.qz_values.specs.declared.Op2.TheVariants as op
use Rattle.qz_syntax.specs.declared.declarations.Port.{Port}
use Rattle.qz_verilog.specs.declared.nets.Ref.{Ref}
use Rattle.qz_verilog.specs.declared.nets.Rhs.{Rhs}
use Rattle.qz_verilog.specs.declared.nets.Rhs.TheVariants as rhs
use Rattle.qz_verilog.specs.Types.{NetTypes, has_sign}
use Rattle.qz_vtext.specs.Spelling.{net_text, sign_text, right_side_text}
use Rattle.qz_vread.specs.Parts.{lacks, IsSplit, NoFront}
use Rattle.qz_vread.specs.Reading.{Reads}
use Rattle.qz_vread.specs.RightSides.{IsDeclared, AreDeclared2, AreDeclared3, Makes, IsJoined, IsChoice, IsOperation, IsBinary, IsBitOf, IsBit, IsSliceOf, IsSlice, ReadsSelection}
use Rattle.qz_vread.proofs.Splitting.{has_it, split_once}
use Rattle.qz_vread.proofs.RightSideLemmas.{net_lacks, decimal_lacks, index_lacks}
use Rattle.qz_vread.proofs.Finding.{makes_nothing, makes_one, once, never}

abbrev Net : NetTypes → List Port → List ℕ → Option Ref → Type 0
Net types inputs bytes found = Reads (IsDeclared types) (net_text inputs) bytes found

-- `a, b}` is cut at its first `,`
record JoinedCut (inputs : List Port) (a rest : List ℕ) (nets : Ref × Ref) : Type 0 where
  first : a ≡ net_text inputs nets.0
  later : rest ≡ codes " " ++ (net_text inputs nets.1 ++ codes "}")

joined_cut : (inputs : List Port) (bytes a rest : List ℕ) (nets : Ref × Ref) → IsSplit 44 bytes a rest → IsJoined inputs bytes nets → JoinedCut inputs a rest nets
joined_cut inputs bytes a rest nets split e =
    let cut = split_once 44 a (net_text inputs nets.0) rest (codes " " ++ (net_text inputs nets.1 ++ codes "}")) split.first (net_lacks 44 inputs nets.0 refl) (sym split.whole ∙ e) in
    record { first = cut.before; later = cut.after }

abbrev MakesJoined : NetTypes → List Port → List ℕ → Option Rhs → Type 0
MakesJoined types inputs bytes found = Makes (AreDeclared2 types) (IsJoined inputs bytes) (λ nets. rhs.Concat nets.0 nets.1) found

pub joined_unclosed : (types : NetTypes) (inputs : List Port) (bytes a rest : List ℕ) → IsSplit 44 bytes a rest → ((b : List ℕ) → rest ≡ codes " " ++ (b ++ codes "}") → ⊥)
    → MakesJoined types inputs bytes None
joined_unclosed types inputs bytes a rest split none =
    makes_nothing (AreDeclared2 types) (IsJoined inputs bytes) (λ nets. rhs.Concat nets.0 nets.1)
    (λ nets are e. none (net_text inputs nets.1) (joined_cut inputs bytes a rest nets split e).later)

joined_second : (inputs : List Port) (rest b : List ℕ) (second : Ref) → rest ≡ codes " " ++ (b ++ codes "}") → rest ≡ codes " " ++ (net_text inputs second ++ codes "}") → b ≡ net_text inputs second
joined_second inputs rest b second e f =
    append_cancel_right b (net_text inputs second) (codes "}") (append_cancel_left (codes " ") (b ++ codes "}") (net_text inputs second ++ codes "}") (sym e ∙ f))

pub joined_no_first : (types : NetTypes) (inputs : List Port) (bytes a rest : List ℕ) → IsSplit 44 bytes a rest → Net types inputs a None → MakesJoined types inputs bytes None
joined_no_first types inputs bytes a rest split found =
    makes_nothing (AreDeclared2 types) (IsJoined inputs bytes) (λ nets. rhs.Concat nets.0 nets.1)
    (λ nets are e. never (IsDeclared types) (λ r. a ≡ net_text inputs r) nets.0 found are.first (joined_cut inputs bytes a rest nets split e).first)

pub joined_no_second : (types : NetTypes) (inputs : List Port) (bytes a rest b : List ℕ) → IsSplit 44 bytes a rest → rest ≡ codes " " ++ (b ++ codes "}") → Net types inputs b None
    → MakesJoined types inputs bytes None
joined_no_second types inputs bytes a rest b split closed found =
    makes_nothing (AreDeclared2 types) (IsJoined inputs bytes) (λ nets. rhs.Concat nets.0 nets.1)
    (λ nets are e. never (IsDeclared types) (λ r. b ≡ net_text inputs r) nets.1 found are.second
    (joined_second inputs rest b nets.1 closed (joined_cut inputs bytes a rest nets split e).later))

pub joined_made : (types : NetTypes) (inputs : List Port) (bytes a rest b : List ℕ) (x y : Ref) → IsSplit 44 bytes a rest → rest ≡ codes " " ++ (b ++ codes "}")
    → Net types inputs a (Some x) → Net types inputs b (Some y) → MakesJoined types inputs bytes (Some (rhs.Concat x y))
joined_made types inputs bytes a rest b x y split closed first second =
    makes_one (AreDeclared2 types) (IsJoined inputs bytes) (λ (nets : Ref × Ref). rhs.Concat nets.0 nets.1) (x, y)
    (split.whole ∙ ap (λ t. t ++ 44 ∷ rest) (first.sound x refl).1
    ∙ ap (λ t. net_text inputs x ++ 44 ∷ t) (closed ∙ ap (λ t. codes " " ++ (t ++ codes "}")) (second.sound y refl).1))
    (λ nets are e.
    let cut = joined_cut inputs bytes a rest nets split e in
    let one : x ≡ nets.0 = once (IsDeclared types) (λ r. a ≡ net_text inputs r) x nets.0 first are.first cut.first in
    let two : y ≡ nets.1 = once (IsDeclared types) (λ r. b ≡ net_text inputs r) y nets.1 second are.second (joined_second inputs rest b nets.1 closed cut.later) in
    pair x y nets.0 nets.1 one two)
  where
    pair : (x y a b : Ref) → x ≡ a → y ≡ b → ◌≡◌ {A = Ref × Ref} (x, y) (a, b)
    pair x y a b e f = cc

-- the sides of a choice are cut at their first space
record ChoiceCut (inputs : List Port) (first one_side rest : List ℕ) (nets : Ref × Ref × Ref) : Type 0 where
  condition : first ≡ net_text inputs nets.0
  one : one_side ≡ net_text inputs nets.1
  later : rest ≡ codes ": " ++ net_text inputs nets.2

choice_cut : (inputs : List Port) (first sides one_side rest : List ℕ) (nets : Ref × Ref × Ref) → IsSplit 32 sides one_side rest → IsChoice inputs first sides nets → ChoiceCut inputs first one_side rest nets
choice_cut inputs first sides one_side rest nets split is =
    let cut = split_once 32 one_side (net_text inputs nets.1) rest (codes ": " ++ net_text inputs nets.2) split.first (net_lacks 32 inputs nets.1 refl) (sym split.whole ∙ is.sides_are) in
    record { condition = is.condition; one = cut.before; later = cut.after }

abbrev MakesChoice : NetTypes → List Port → List ℕ → List ℕ → Option Rhs → Type 0
MakesChoice types inputs first sides found = Makes (AreDeclared3 types) (IsChoice inputs first sides) (λ nets. rhs.Choose nets.0 nets.1 nets.2) found

no_choice : (types : NetTypes) (inputs : List Port) (first sides : List ℕ) → ((nets : Ref × Ref × Ref) → AreDeclared3 types nets → IsChoice inputs first sides nets → ⊥)
    → MakesChoice types inputs first sides None
no_choice types inputs first sides none = makes_nothing (AreDeclared3 types) (IsChoice inputs first sides) (λ nets. rhs.Choose nets.0 nets.1 nets.2) none

pub choice_no_colon : (types : NetTypes) (inputs : List Port) (first sides one_side rest : List ℕ) → IsSplit 32 sides one_side rest → NoFront rest (codes ": ") → MakesChoice types inputs first sides None
choice_no_colon types inputs first sides one_side rest split none =
    no_choice types inputs first sides (λ nets are is. none (net_text inputs nets.2) (choice_cut inputs first sides one_side rest nets split is).later)

pub choice_no_yes : (types : NetTypes) (inputs : List Port) (first sides one_side rest : List ℕ) → IsSplit 32 sides one_side rest → Net types inputs one_side None → MakesChoice types inputs first sides None
choice_no_yes types inputs first sides one_side rest split found =
    no_choice types inputs first sides
    (λ nets are is. never (IsDeclared types) (λ r. one_side ≡ net_text inputs r) nets.1 found are.second (choice_cut inputs first sides one_side rest nets split is).one)

pub choice_no_no : (types : NetTypes) (inputs : List Port) (first sides one_side rest other_side : List ℕ) → IsSplit 32 sides one_side rest → rest ≡ codes ": " ++ other_side → Net types inputs other_side None
    → MakesChoice types inputs first sides None
choice_no_no types inputs first sides one_side rest other_side split colon found =
    no_choice types inputs first sides
    (λ nets are is. never (IsDeclared types) (λ r. other_side ≡ net_text inputs r) nets.2 found are.third
    (append_cancel_left (codes ": ") other_side (net_text inputs nets.2) (sym colon ∙ (choice_cut inputs first sides one_side rest nets split is).later)))

pub choice_made : (types : NetTypes) (inputs : List Port) (first sides one_side rest other_side : List ℕ) (c a b : Ref) → IsSplit 32 sides one_side rest → rest ≡ codes ": " ++ other_side
    → Net types inputs first (Some c) → Net types inputs one_side (Some a) → Net types inputs other_side (Some b) → MakesChoice types inputs first sides (Some (rhs.Choose c a b))
choice_made types inputs first sides one_side rest other_side c a b split colon condition one two =
    makes_one (AreDeclared3 types) (IsChoice inputs first sides) (λ (nets : Ref × Ref × Ref). rhs.Choose nets.0 nets.1 nets.2) (c, a, b)
    (record {
      condition = (condition.sound c refl).1;
      sides_are =
          split.whole ∙ ap (λ t. t ++ 32 ∷ rest) (one.sound a refl).1
          ∙ ap (λ t. net_text inputs a ++ 32 ∷ t) (colon ∙ ap (λ t. codes ": " ++ t) (two.sound b refl).1);
    })
    (λ nets are is.
    let cut = choice_cut inputs first sides one_side rest nets split is in
    triple c a b nets.0 nets.1 nets.2
    (once (IsDeclared types) (λ r. first ≡ net_text inputs r) c nets.0 condition are.first is.condition)
    (once (IsDeclared types) (λ r. one_side ≡ net_text inputs r) a nets.1 one are.second cut.one)
    (once (IsDeclared types) (λ r. other_side ≡ net_text inputs r) b nets.2 two are.third (append_cancel_left (codes ": ") other_side (net_text inputs nets.2) (sym colon ∙ cut.later))))
  where
    triple : (x y z a b c : Ref) → x ≡ a → y ≡ b → z ≡ c → ◌≡◌ {A = Ref × Ref × Ref} (x, y, z) (a, b, c)
    triple x y z a b c e f g = cc

sign_lacks : (o : Op2) → lacks 32 (sign_text o) ≡ true
sign_lacks op.And = refl
sign_lacks op.Or = refl
sign_lacks op.Xor = refl
sign_lacks op.Imp = refl
sign_lacks op.Add = refl
sign_lacks op.Sub = refl
sign_lacks op.Eq = refl
sign_lacks op.Ne = refl
sign_lacks op.Lt = refl
sign_lacks op.Le = refl
sign_lacks op.Gt = refl
sign_lacks op.Ge = refl

-- a sign and the net after it are cut at their first space
record BinaryCut (inputs : List Port) (sign second : List ℕ) (parts : Op2 × Ref × Ref) : Type 0 where
  operator : sign ≡ sign_text parts.0
  net : second ≡ net_text inputs parts.2

binary_cut : (inputs : List Port) (first rest sign second : List ℕ) (parts : Op2 × Ref × Ref) → IsSplit 32 rest sign second → IsBinary inputs first rest parts → BinaryCut inputs sign second parts
binary_cut inputs first rest sign second parts split is =
    let cut = split_once 32 sign (sign_text parts.0) second (net_text inputs parts.2) split.first (sign_lacks parts.0) (sym split.whole ∙ is.rest_is) in
    record { operator = cut.before; net = cut.after }

abbrev MakesBinary : NetTypes → List Port → List ℕ → List ℕ → Option Rhs → Type 0
MakesBinary types inputs first rest found = Makes (IsOperation types) (IsBinary inputs first rest) (λ parts. rhs.Bin parts.0 parts.1 parts.2) found

abbrev Sign : List ℕ → Option Op2 → Type 0
Sign bytes found = Reads (λ o. IsTrue (has_sign o)) sign_text bytes found

no_binary : (types : NetTypes) (inputs : List Port) (first rest : List ℕ) → ((parts : Op2 × Ref × Ref) → IsOperation types parts → IsBinary inputs first rest parts → ⊥)
    → MakesBinary types inputs first rest None
no_binary types inputs first rest none = makes_nothing (IsOperation types) (IsBinary inputs first rest) (λ parts. rhs.Bin parts.0 parts.1 parts.2) none

pub binary_no_sign : (types : NetTypes) (inputs : List Port) (first rest sign second : List ℕ) → IsSplit 32 rest sign second → Sign sign None → MakesBinary types inputs first rest None
binary_no_sign types inputs first rest sign second split found =
    no_binary types inputs first rest
    (λ parts are is. never (λ o. IsTrue (has_sign o)) (λ o. sign ≡ sign_text o) parts.0 found are.sign (binary_cut inputs first rest sign second parts split is).operator)

pub binary_no_second : (types : NetTypes) (inputs : List Port) (first rest sign second : List ℕ) → IsSplit 32 rest sign second → Net types inputs second None → MakesBinary types inputs first rest None
binary_no_second types inputs first rest sign second split found =
    no_binary types inputs first rest
    (λ parts are is. never (IsDeclared types) (λ r. second ≡ net_text inputs r) parts.2 found are.second (binary_cut inputs first rest sign second parts split is).net)

pub binary_made : (types : NetTypes) (inputs : List Port) (first rest sign second : List ℕ) (o : Op2) (a b : Ref) → IsSplit 32 rest sign second → Sign sign (Some o)
    → Net types inputs first (Some a) → Net types inputs second (Some b) → MakesBinary types inputs first rest (Some (rhs.Bin o a b))
binary_made types inputs first rest sign second o a b split operator one two =
    makes_one (IsOperation types) (IsBinary inputs first rest) (λ (parts : Op2 × Ref × Ref). rhs.Bin parts.0 parts.1 parts.2) (o, a, b)
    (record {
      net = (one.sound a refl).1;
      rest_is = split.whole ∙ ap (λ t. t ++ 32 ∷ second) (operator.sound o refl).1 ∙ ap (λ t. sign_text o ++ 32 ∷ t) (two.sound b refl).1;
    })
    (λ parts are is.
    let cut = binary_cut inputs first rest sign second parts split is in
    triple o a b parts.0 parts.1 parts.2
    (once (λ o. IsTrue (has_sign o)) (λ o. sign ≡ sign_text o) o parts.0 operator are.sign cut.operator)
    (once (IsDeclared types) (λ r. first ≡ net_text inputs r) a parts.1 one are.first is.net)
    (once (IsDeclared types) (λ r. second ≡ net_text inputs r) b parts.2 two are.second cut.net))
  where
    triple : (x : Op2) (y z : Ref) (a : Op2) (b c : Ref) → x ≡ a → y ≡ b → z ≡ c → ◌≡◌ {A = Op2 × Ref × Ref} (x, y, z) (a, b, c)
    triple x y z a b c e f g = cc

-- a bit's number before `]`
abbrev Number : List ℕ → Option ℕ → Type 0
Number bytes found = Reads (λ n. n < 64) decimal bytes found

abbrev MakesBit : NetTypes → List Port → List ℕ → List ℕ → Option Rhs → Type 0
MakesBit types inputs net index found = Makes (IsBitOf types) (IsBit inputs net index) (λ bit. rhs.Bit bit.0 bit.1) found

before_bracket : (index digits : List ℕ) (n : ℕ) → index ≡ digits ++ codes "]" → index ≡ decimal n ++ codes "]" → digits ≡ decimal n
before_bracket index digits n e f = append_cancel_right digits (decimal n) (codes "]") (sym e ∙ f)

pub bit_made : (types : NetTypes) (inputs : List Port) (net index digits : List ℕ) (r : Ref) (n : ℕ) → index ≡ digits ++ codes "]" → Number digits (Some n) → Net types inputs net (Some r)
    → MakesBit types inputs net index (Some (rhs.Bit r n))
bit_made types inputs net index digits r n closed number found =
    makes_one (IsBitOf types) (IsBit inputs net index) (λ (bit : Ref × ℕ). rhs.Bit bit.0 bit.1) (r, n)
    (record { net_is = (found.sound r refl).1; index_is = closed ∙ ap (λ t. t ++ codes "]") (number.sound n refl).1 })
    (λ bit are is.
    pair r n bit.0 bit.1
    (once (IsDeclared types) (λ r. net ≡ net_text inputs r) r bit.0 found are.net is.net_is)
    (once (λ n. n < 64) (λ n. digits ≡ decimal n) n bit.1 number are.below (before_bracket index digits bit.1 closed is.index_is)))
  where
    pair : (x : Ref) (y : ℕ) (a : Ref) (b : ℕ) → x ≡ a → y ≡ b → ◌≡◌ {A = Ref × ℕ} (x, y) (a, b)
    pair x y a b e f = cc

abbrev MakesSlice : NetTypes → List Port → List ℕ → List ℕ → List ℕ → Option Rhs → Type 0
MakesSlice types inputs net high low found = Makes (IsSliceOf types) (IsSlice inputs net high low) (λ slice. rhs.Slice slice.0 slice.1 slice.2) found

pub slice_made : (types : NetTypes) (inputs : List Port) (net high low digits : List ℕ) (r : Ref) (h l : ℕ) → low ≡ digits ++ codes "]" → Number digits (Some l)
    → Net types inputs net (Some r) → Number high (Some h) → MakesSlice types inputs net high low (Some (rhs.Slice r h l))
slice_made types inputs net high low digits r h l closed number found top =
    makes_one (IsSliceOf types) (IsSlice inputs net high low) (λ (slice : Ref × ℕ × ℕ). rhs.Slice slice.0 slice.1 slice.2) (r, h, l)
    (record { net_is = (found.sound r refl).1; high_is = (top.sound h refl).1; low_is = closed ∙ ap (λ t. t ++ codes "]") (number.sound l refl).1 })
    (λ slice are is.
    triple r h l slice.0 slice.1 slice.2
    (once (IsDeclared types) (λ r. net ≡ net_text inputs r) r slice.0 found are.net is.net_is)
    (once (λ n. n < 64) (λ n. high ≡ decimal n) h slice.1 top are.high is.high_is)
    (once (λ n. n < 64) (λ n. digits ≡ decimal n) l slice.2 number are.low (before_bracket low digits slice.2 closed is.low_is)))
  where
    triple : (x : Ref) (y z : ℕ) (a : Ref) (b c : ℕ) → x ≡ a → y ≡ b → z ≡ c → ◌≡◌ {A = Ref × ℕ × ℕ} (x, y, z) (a, b, c)
    triple x y z a b c e f g = cc

-- what stands after `[` is a bit's number where it has other_side `:`
pub selects_bit : (types : NetTypes) (inputs : List Port) (net indices : List ℕ) (found : Option Rhs) → lacks 58 indices ≡ true → MakesBit types inputs net indices found
    → ReadsSelection types inputs net indices found
selects_bit types inputs net indices found none made = record {
  sound = λ right e.
      let m = made.sound right e in
      ap (λ t. t ++ 91 ∷ indices) m.there.net_is ∙ ap (λ t. net_text inputs m.part.0 ++ 91 ∷ t) m.there.index_is ∙ ap (right_side_text inputs) (sym m.made);
  bit = λ bit are is. made.complete bit are is;
  slice = λ slice are is.
      absurd (has_it 58 (decimal slice.1) (decimal slice.2 ++ codes "]") (ap (lacks 58) (sym is.indices_are) ∙ none));
}

-- and else the numbers of two bits
pub selects_slice : (types : NetTypes) (inputs : List Port) (net indices high low : List ℕ) (found : Option Rhs) → IsSplit 58 indices high low → MakesSlice types inputs net high low found
    → ReadsSelection types inputs net indices found
selects_slice types inputs net indices high low found split made = record {
  sound = λ right e.
      let m = made.sound right e in
      ap (λ t. t ++ 91 ∷ indices) m.there.net_is
      ∙ ap (λ t. net_text inputs m.part.0 ++ 91 ∷ t)
      (split.whole ∙ ap (λ t. t ++ 58 ∷ low) m.there.high_is ∙ ap (λ t. decimal m.part.1 ++ 58 ∷ t) m.there.low_is)
      ∙ ap (right_side_text inputs) (sym m.made);
  bit = λ bit are is.
      absurd (has_it 58 high low (ap (lacks 58) (sym split.whole ∙ is.index_is) ∙ index_lacks 58 bit.1 refl refl));
  slice = λ slice are is.
      let cut = split_once 58 high (decimal slice.1) low (decimal slice.2 ++ codes "]") split.first (decimal_lacks 58 slice.1 refl) (sym split.whole ∙ is.indices_are) in
      made.complete slice are (record { net_is = is.net_is; high_is = cut.before; low_is = cut.after });
}

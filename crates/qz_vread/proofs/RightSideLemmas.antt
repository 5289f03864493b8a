-- What is read of a right side, form by form.
use Rattle.std.proofs.Common.{◌≡◌, ℕ, ◌^◌, ◌<◌, ◌≤◌, Bool, true, false, not, ◌&&◌, ◌==◌, List, [], ◌∷◌, ◌++◌, Option, Some, None, IsSome, refl, sym, ap, ◌∙◌, arith, rules, codes}
use Rattle.std.specs.Fmt.{decimal}
use Rattle.qz_values.specs.declared.Ty.{Ty}
use Rattle.qz_values.specs.declared.Ty.TheVariants as ty
use Rattle.qz_values.specs.declared.Value.{Value}
use Rattle.qz_values.specs.declared.Op2.{Op2}
use Rattle.qz_values.specs.declared.Op2.TheVariants as op
use Rattle.qz_values.specs.Values.{type_of, bits_of, IsValue}
use Rattle.qz_syntax.specs.declared.declarations.Port.{Port}
use Rattle.qz_verilog.specs.declared.nets.Ref.{Ref}
use Rattle.qz_verilog.specs.declared.nets.Ref.TheVariants as net
use Rattle.qz_verilog.specs.declared.nets.Rhs.{Rhs}
use Rattle.qz_verilog.specs.declared.nets.Rhs.TheVariants as rhs
use Rattle.qz_verilog.specs.Types.{NetTypes, net_type, has_sign, right_side_type, given1, given2, given3, inverted_type, constant_type, is_value}
use Rattle.qz_values.specs.Tables.{type2_of, choose_type, bit_type, slice_type, concat_type}
use Rattle.std.specs.Prelude.{slice_get, nat_lt, nat_le, if◌then◌else◌}
use Rattle.std.proofs.lemmas.Bool.{and_parts, ltb-true, leb-true}
use Rattle.std.proofs.lemmas.Bool.Decides.{nat_tests}
use Rattle.qz_values.specs.Types.{width_of, is_type, is_vector}
use Rattle.std.specs.Option.{option_map_or}
use Rattle.std.proofs.lemmas.List.{append_cancel_left}
use Rattle.qz_vtext.specs.Names.{name_text}
use Rattle.qz_vtext.specs.Spelling.{net_text, port_text, sign_text, constant_text, mark_text, right_side_text}
use Rattle.qz_vread.specs.Parts.{is_word, lacks, NoFront}
use Rattle.qz_vread.specs.RightSides.{IsDeclared, AreDeclared2, AreDeclared3, ReadsForm, ReadsSelection, IsMade, Makes, IsJoined, IsChoice, IsOperation, IsBinary, IsBitOf, IsSliceOf}
use Rattle.qz_vread.proofs.Words.{all_words, all-append, decimal_words, name_words, words_lack}
use Rattle.qz_vread.proofs.Splitting.{has_it, split_once, no_front, heads_differ}

port_words : (ports : List Port) (k : ℕ) → all_words (port_text ports k) ≡ true
port_words ports k = by (slice_get ports k)
  where
    by : (port : Option Port) → all_words (option_map_or (λ (p : Port). name_text p.name) port []) ≡ true
    by None = refl
    by (Some p) = name_words p.name

pub net_words : (inputs : List Port) (a : Ref) → all_words (net_text inputs a) ≡ true
net_words inputs (net.Input k) = port_words inputs k
net_words inputs (net.Reg k) = decimal_words k
net_words inputs (net.Wire k) = decimal_words k

pub net_lacks : (mark : ℕ) (inputs : List Port) (a : Ref) → is_word mark ≡ false → lacks mark (net_text inputs a) ≡ true
net_lacks mark inputs a other = words_lack mark (net_text inputs a) other (net_words inputs a)

pub decimal_lacks : (mark n : ℕ) → is_word mark ≡ false → lacks mark (decimal n) ≡ true
decimal_lacks mark n other = words_lack mark (decimal n) other (decimal_words n)

-- a net's text doesn't begin with such a byte, whatever follows
pub net_no_front : (mark : ℕ) (inputs : List Port) (a : Ref) (rest : List ℕ) → is_word mark ≡ false → NoFront (net_text inputs a ++ rest) (mark ∷ [])
net_no_front mark inputs (net.Input k) rest other later e = let same : 105 ≡ mark = cc in absurd (let t : is_word 105 ≡ false = ap is_word same ∙ other in cc)
net_no_front mark inputs (net.Reg k) rest other later e = let same : 114 ≡ mark = cc in absurd (let t : is_word 114 ≡ false = ap is_word same ∙ other in cc)
net_no_front mark inputs (net.Wire k) rest other later e = let same : 119 ≡ mark = cc in absurd (let t : is_word 119 ≡ false = ap is_word same ∙ other in cc)

-- operands of a right side that has a type are declared
pub given1_declared : (types : NetTypes) (table : Ty → Option Ty) (a : Ref) (t : Ty) → given1 table (net_type types a) ≡ Some t → IsDeclared types a
given1_declared types table a t e = record { some = by (net_type types a) e }
  where
    by : (s : Option Ty) → given1 table s ≡ Some t → IsSome s
    by None e = absurd cc
    by (Some s) e = search rules

pub given2_declared : (types : NetTypes) (table : Ty → Ty → Option Ty) (a b : Ref) (t : Ty)
    → given2 table (net_type types a) (net_type types b) ≡ Some t → AreDeclared2 types (a, b)
given2_declared types table a b t e = by (net_type types a) refl e
  where
    by : (s : Option Ty) → net_type types a ≡ s → given2 table s (net_type types b) ≡ Some t → AreDeclared2 types (a, b)
    by None is e = absurd cc
    by (Some s) is e = record { first = record { some = rw is (search rules) }; second = given1_declared types (table s) b t e }

pub given3_declared : (types : NetTypes) (table : Ty → Ty → Ty → Option Ty) (c a b : Ref) (t : Ty)
    → given3 table (net_type types c) (net_type types a) (net_type types b) ≡ Some t → AreDeclared3 types (c, a, b)
given3_declared types table c a b t e = by (net_type types c) refl e
  where
    by : (s : Option Ty) → net_type types c ≡ s → given3 table s (net_type types a) (net_type types b) ≡ Some t → AreDeclared3 types (c, a, b)
    by None is e = absurd cc
    by (Some s) is e =
        let both = given2_declared types (table s) a b t e in
        record { first = record { some = rw is (search rules) }; second = both.first; third = both.second }

pub value_lacks : (mark : ℕ) (v : Value) → is_word mark ≡ false → (39 == mark) ≡ false → lacks mark (constant_text v) ≡ true
value_lacks mark v other apart = by (type_of v)
  where
    quote : lacks mark (39 ∷ []) ≡ true
    quote = rw apart refl

    letter : (b : ℕ) → is_word b ≡ true → lacks mark (b ∷ []) ≡ true
    letter b w = words_lack mark (b ∷ []) other (rw w refl)

    number : lacks mark (decimal (bits_of v)) ≡ true
    number = decimal_lacks mark (bits_of v) other

    after : (before : List ℕ) → lacks mark before ≡ true → lacks mark (before ++ decimal (bits_of v)) ≡ true
    after before l = all-append (λ byte. not (byte == mark)) before (decimal (bits_of v)) l number

    tail : (b : ℕ) → is_word b ≡ true → lacks mark (39 ∷ b ∷ []) ≡ true
    tail b w = all-append (λ byte. not (byte == mark)) (39 ∷ []) (b ∷ []) quote (letter b w)

    by : (t : Ty) → lacks mark (mark_text t ++ decimal (bits_of v)) ≡ true
    by ty.Bool = after (codes "1'b") (all-append (λ byte. not (byte == mark)) (49 ∷ []) (39 ∷ 98 ∷ []) (letter 49 refl) (tail 98 refl))
    by (ty.Bv w) = after (decimal w ++ codes "'d") (all-append (λ byte. not (byte == mark)) (decimal w) (codes "'d") (decimal_lacks mark w other) (tail 100 refl))

bit_lacks : (mark : ℕ) (inputs : List Port) (a : Ref) (index : List ℕ) → is_word mark ≡ false → lacks mark index ≡ true → (91 == mark) ≡ false
    → lacks mark (net_text inputs a ++ (91 ∷ index)) ≡ true
bit_lacks mark inputs a index other none apart =
    all-append (λ byte. not (byte == mark)) (net_text inputs a) (91 ∷ index) (net_lacks mark inputs a other)
    (all-append (λ byte. not (byte == mark)) (91 ∷ []) index (rw apart refl) none)

-- the operands of each form of right side that has a type
pub invert_declared : (types : NetTypes) (a : Ref) (t : Ty) → right_side_type types (rhs.Invert a) ≡ Some t → IsDeclared types a
invert_declared types a t e = given1_declared types inverted_type a t e

pub bin_parts : (types : NetTypes) (op : Op2) (a b : Ref) (t : Ty) → right_side_type types (rhs.Bin op a b) ≡ Some t → IsOperation types (op, a, b)
bin_parts types op a b t e = by (has_sign op) refl e
  where
    by : (s : Bool) → has_sign op ≡ s → (if s then given2 (type2_of op) (net_type types a) (net_type types b) else None) ≡ Some t → IsOperation types (op, a, b)
    by false is e = absurd cc
    by true is e =
        let both = given2_declared types (type2_of op) a b t e in
        record { sign = is; first = both.first; second = both.second }

narrow : (t : Ty) → is_vector t ≡ true → width_of t ≤ 64
narrow ty.Bool e = absurd cc
narrow (ty.Bv w) e = grind (arith, nat_tests)

bit_below : (types : NetTypes) (a : Ref) (i : ℕ) (t : Ty) → right_side_type types (rhs.Bit a i) ≡ Some t → IsBitOf types (a, i)
bit_below types a i t e = record { net = given1_declared types (λ s. bit_type s i) a t e; below = by (net_type types a) e }
  where
    small : (s : Ty) (b : Bool) → (is_vector s && nat_lt i (width_of s)) ≡ b → (if b then Some ty.Bool else None) ≡ Some t → i < 64
    small s false is e = absurd cc
    small s true is e =
        let parts = and_parts (is_vector s) (nat_lt i (width_of s)) is in
        let low : i < width_of s = ltb-true i (width_of s) parts.1 in
        let high = narrow s parts.0 in omega arith

    by : (s : Option Ty) → given1 (λ s. bit_type s i) s ≡ Some t → i < 64
    by None e = absurd cc
    by (Some s) e = small s (is_vector s && nat_lt i (width_of s)) refl e

slice_below : (types : NetTypes) (a : Ref) (high low : ℕ) (t : Ty) → right_side_type types (rhs.Slice a high low) ≡ Some t → IsSliceOf types (a, high, low)
slice_below types a high low t e =
    let both = by (net_type types a) e in
    record { net = given1_declared types (λ s. slice_type s high low) a t e; high = both.0; low = both.1 }
  where
    small : (s : Ty) (u : Ty) (b : Bool) → (is_vector s && (nat_le low high && nat_lt high (width_of s))) ≡ b → (if b then Some u else None) ≡ Some t → (high < 64) × (low < 64)
    small s u false is e = absurd cc
    small s u true is e =
        let parts = and_parts (is_vector s) (nat_le low high && nat_lt high (width_of s)) is in
        let ends = and_parts (nat_le low high) (nat_lt high (width_of s)) parts.1 in
        let first : low ≤ high = leb-true low high ends.0 in
        let second : high < width_of s = ltb-true high (width_of s) ends.1 in
        let wide = narrow s parts.0 in (omega arith, omega arith)

    by : (s : Option Ty) → given1 (λ s. slice_type s high low) s ≡ Some t → (high < 64) × (low < 64)
    by None e = absurd cc
    by (Some s) e = small s _ (is_vector s && (nat_le low high && nat_lt high (width_of s))) refl e

-- what was made of operands of the form that stands there
pub invert_form : (types : NetTypes) (inputs : List Port) (t : Ty) (bytes net : List ℕ) (found : Option Rhs) → bytes ≡ codes "~" ++ net
    → Makes (IsDeclared types) (λ a. net ≡ net_text inputs a) (λ a. rhs.Invert a) found → ReadsForm types inputs t bytes found
invert_form types inputs t bytes net found whole made = record {
  sound = λ right e. sound right (made.sound right e);
  complete = complete;
}
  where
    sound : (right : Rhs) → IsMade (λ a. net ≡ net_text inputs a) (λ a. rhs.Invert a) right → bytes ≡ right_side_text inputs right
    sound right m = whole ∙ ap (λ n. codes "~" ++ n) m.there ∙ ap (right_side_text inputs) (sym m.made)

    complete : (right : Rhs) → right_side_type types right ≡ Some t → bytes ≡ right_side_text inputs right → found ≡ Some right
    complete (rhs.Const v) typed e = absurd (no_front 126 (constant_text v) (value_lacks 126 v refl refl) net (sym e ∙ whole))
    complete (rhs.Invert a) typed e = made.complete a (invert_declared types a t typed) (let x : codes "~" ++ net ≡ codes "~" ++ net_text inputs a = sym whole ∙ e in cc)
    complete (rhs.Bin op a b) typed e = absurd (net_no_front 126 inputs a _ refl net (sym e ∙ whole))
    complete (rhs.Choose c a b) typed e = absurd (net_no_front 126 inputs c _ refl net (sym e ∙ whole))
    complete (rhs.Bit a i) typed e = absurd (net_no_front 126 inputs a _ refl net (sym e ∙ whole))
    complete (rhs.Slice a h l) typed e = absurd (net_no_front 126 inputs a _ refl net (sym e ∙ whole))
    complete (rhs.Concat a b) typed e = absurd (heads_differ 123 126 _ net refl (sym e ∙ whole))

pub joined_form : (types : NetTypes) (inputs : List Port) (t : Ty) (bytes nets : List ℕ) (found : Option Rhs) → bytes ≡ codes "{" ++ nets
    → Makes (AreDeclared2 types) (IsJoined inputs nets) (λ nets. rhs.Concat nets.0 nets.1) found → ReadsForm types inputs t bytes found
joined_form types inputs t bytes nets found whole made = record {
  sound = λ right e. sound right (made.sound right e);
  complete = complete;
}
  where
    sound : (right : Rhs) → IsMade (IsJoined inputs nets) (λ nets. rhs.Concat nets.0 nets.1) right → bytes ≡ right_side_text inputs right
    sound right m = whole ∙ ap (λ n. codes "{" ++ n) m.there ∙ ap (right_side_text inputs) (sym m.made)

    complete : (right : Rhs) → right_side_type types right ≡ Some t → bytes ≡ right_side_text inputs right → found ≡ Some right
    complete (rhs.Const v) typed e = absurd (no_front 123 (constant_text v) (value_lacks 123 v refl refl) nets (sym e ∙ whole))
    complete (rhs.Invert a) typed e = absurd (heads_differ 126 123 _ nets refl (sym e ∙ whole))
    complete (rhs.Bin op a b) typed e = absurd (net_no_front 123 inputs a _ refl nets (sym e ∙ whole))
    complete (rhs.Choose c a b) typed e = absurd (net_no_front 123 inputs c _ refl nets (sym e ∙ whole))
    complete (rhs.Bit a i) typed e = absurd (net_no_front 123 inputs a _ refl nets (sym e ∙ whole))
    complete (rhs.Slice a h l) typed e = absurd (net_no_front 123 inputs a _ refl nets (sym e ∙ whole))
    complete (rhs.Concat a b) typed e =
        made.complete (a, b) (given2_declared types concat_type a b t typed)
        (let x : codes "{" ++ nets ≡ codes "{" ++ (net_text inputs a ++ (codes ", " ++ (net_text inputs b ++ codes "}"))) = sym whole ∙ e in cc)

-- bytes that no `~` or `{` stands in front of
pub record IsPlain (bytes : List ℕ) : Type 0 where
  pub no_tilde : NoFront bytes (codes "~")
  pub no_brace : NoFront bytes (codes "{")

question_differs : (op : Op2) (rest sides : List ℕ) → sign_text op ++ (codes " " ++ rest) ≡ codes "? " ++ sides → ⊥
question_differs op.And rest sides e = heads_differ 38 63 _ _ refl e
question_differs op.Or rest sides e = heads_differ 124 63 _ _ refl e
question_differs op.Xor rest sides e = heads_differ 94 63 _ _ refl e
question_differs op.Imp rest sides e = heads_differ 45 63 _ _ refl e
question_differs op.Add rest sides e = heads_differ 43 63 _ _ refl e
question_differs op.Sub rest sides e = heads_differ 45 63 _ _ refl e
question_differs op.Eq rest sides e = heads_differ 61 63 _ _ refl e
question_differs op.Ne rest sides e = heads_differ 33 63 _ _ refl e
question_differs op.Lt rest sides e = heads_differ 60 63 _ _ refl e
question_differs op.Le rest sides e = heads_differ 60 63 _ _ refl e
question_differs op.Gt rest sides e = heads_differ 62 63 _ _ refl e
question_differs op.Ge rest sides e = heads_differ 62 63 _ _ refl e

slice_lacks : (mark high low : ℕ) → is_word mark ≡ false → (58 == mark) ≡ false → (93 == mark) ≡ false
    → lacks mark (decimal high ++ (codes ":" ++ (decimal low ++ codes "]"))) ≡ true
slice_lacks mark high low other colon bracket =
    let p : ℕ → Bool = λ byte. not (byte == mark) in
    all-append p (decimal high) (codes ":" ++ (decimal low ++ codes "]")) (decimal_lacks mark high other)
    (all-append p (58 ∷ []) (decimal low ++ codes "]") (rw colon refl)
    (all-append p (decimal low) (codes "]") (decimal_lacks mark low other) (rw bracket refl)))

pub index_lacks : (mark i : ℕ) → is_word mark ≡ false → (93 == mark) ≡ false → lacks mark (decimal i ++ codes "]") ≡ true
index_lacks mark i other bracket = all-append (λ byte. not (byte == mark)) (decimal i) (codes "]") (decimal_lacks mark i other) (rw bracket refl)

pub choice_form : (types : NetTypes) (inputs : List Port) (t : Ty) (bytes first rest sides : List ℕ) (found : Option Rhs)
    → IsPlain bytes → bytes ≡ first ++ 32 ∷ rest → lacks 32 first ≡ true → rest ≡ codes "? " ++ sides
    → Makes (AreDeclared3 types) (IsChoice inputs first sides) (λ nets. rhs.Choose nets.0 nets.1 nets.2) found → ReadsForm types inputs t bytes found
choice_form types inputs t bytes first rest sides found plain whole clean mark made = record {
  sound = λ right e. sound right (made.sound right e);
  complete = complete;
}
  where
    sound : (right : Rhs) → IsMade (IsChoice inputs first sides) (λ nets. rhs.Choose nets.0 nets.1 nets.2) right → bytes ≡ right_side_text inputs right
    sound right m =
        whole ∙ ap (λ r. first ++ 32 ∷ r) (mark ∙ ap (λ s. codes "? " ++ s) m.there.sides_are)
        ∙ ap (λ f. f ++ (codes " ? " ++ (net_text inputs m.part.1 ++ (codes " : " ++ net_text inputs m.part.2)))) m.there.condition
        ∙ ap (right_side_text inputs) (sym m.made)

    complete : (right : Rhs) → right_side_type types right ≡ Some t → bytes ≡ right_side_text inputs right → found ≡ Some right
    complete (rhs.Const v) typed e = absurd (has_it 32 first rest (ap (lacks 32) (sym whole ∙ e) ∙ value_lacks 32 v refl refl))
    complete (rhs.Invert a) typed e = absurd (plain.no_tilde _ e)
    complete (rhs.Bin op a b) typed e =
        let split = split_once 32 first (net_text inputs a) rest (sign_text op ++ (codes " " ++ net_text inputs b)) clean (net_lacks 32 inputs a refl) (sym whole ∙ e) in
        absurd (question_differs op (net_text inputs b) sides (sym split.after ∙ mark))
    complete (rhs.Choose c a b) typed e =
        let tail = net_text inputs a ++ (codes " : " ++ net_text inputs b) in
        let split = split_once 32 first (net_text inputs c) rest (codes "? " ++ tail) clean (net_lacks 32 inputs c refl) (sym whole ∙ e) in
        let same : codes "? " ++ sides ≡ codes "? " ++ tail = sym mark ∙ split.after in
        made.complete (c, a, b) (given3_declared types choose_type c a b t typed) (record { condition = split.before; sides_are = append_cancel_left (codes "? ") sides tail same })
    complete (rhs.Bit a i) typed e = absurd (has_it 32 first rest (ap (lacks 32) (sym whole ∙ e) ∙ bit_lacks 32 inputs a _ refl (index_lacks 32 i refl refl) refl))
    complete (rhs.Slice a h l) typed e = absurd (has_it 32 first rest (ap (lacks 32) (sym whole ∙ e) ∙ bit_lacks 32 inputs a _ refl (slice_lacks 32 h l refl refl refl) refl))
    complete (rhs.Concat a b) typed e = absurd (plain.no_brace _ e)

pub binary_form : (types : NetTypes) (inputs : List Port) (t : Ty) (bytes first rest : List ℕ) (found : Option Rhs)
    → IsPlain bytes → bytes ≡ first ++ 32 ∷ rest → lacks 32 first ≡ true → NoFront rest (codes "? ")
    → Makes (IsOperation types) (IsBinary inputs first rest) (λ parts. rhs.Bin parts.0 parts.1 parts.2) found → ReadsForm types inputs t bytes found
binary_form types inputs t bytes first rest found plain whole clean mark made = record {
  sound = λ right e. sound right (made.sound right e);
  complete = complete;
}
  where
    sound : (right : Rhs) → IsMade (IsBinary inputs first rest) (λ parts. rhs.Bin parts.0 parts.1 parts.2) right → bytes ≡ right_side_text inputs right
    sound right m =
        whole ∙ ap (λ r. first ++ 32 ∷ r) m.there.rest_is
        ∙ ap (λ f. f ++ (codes " " ++ (sign_text m.part.0 ++ (codes " " ++ net_text inputs m.part.2)))) m.there.net
        ∙ ap (right_side_text inputs) (sym m.made)

    complete : (right : Rhs) → right_side_type types right ≡ Some t → bytes ≡ right_side_text inputs right → found ≡ Some right
    complete (rhs.Const v) typed e = absurd (has_it 32 first rest (ap (lacks 32) (sym whole ∙ e) ∙ value_lacks 32 v refl refl))
    complete (rhs.Invert a) typed e = absurd (plain.no_tilde _ e)
    complete (rhs.Bin op a b) typed e =
        let split = split_once 32 first (net_text inputs a) rest (sign_text op ++ (codes " " ++ net_text inputs b)) clean (net_lacks 32 inputs a refl) (sym whole ∙ e) in
        made.complete (op, a, b) (bin_parts types op a b t typed) (record { net = split.before; rest_is = split.after })
    complete (rhs.Choose c a b) typed e =
        let tail = net_text inputs a ++ (codes " : " ++ net_text inputs b) in
        let split = split_once 32 first (net_text inputs c) rest (codes "? " ++ tail) clean (net_lacks 32 inputs c refl) (sym whole ∙ e) in
        absurd (mark tail split.after)
    complete (rhs.Bit a i) typed e = absurd (has_it 32 first rest (ap (lacks 32) (sym whole ∙ e) ∙ bit_lacks 32 inputs a _ refl (index_lacks 32 i refl refl) refl))
    complete (rhs.Slice a h l) typed e = absurd (has_it 32 first rest (ap (lacks 32) (sym whole ∙ e) ∙ bit_lacks 32 inputs a _ refl (slice_lacks 32 h l refl refl refl) refl))
    complete (rhs.Concat a b) typed e = absurd (plain.no_brace _ e)

pub selection_form : (types : NetTypes) (inputs : List Port) (t : Ty) (bytes net indices : List ℕ) (found : Option Rhs)
    → IsPlain bytes → lacks 32 bytes ≡ true → bytes ≡ net ++ 91 ∷ indices → lacks 91 net ≡ true
    → ReadsSelection types inputs net indices found → ReadsForm types inputs t bytes found
selection_form types inputs t bytes net indices found plain spaceless whole clean read = record {
  sound = λ right e. whole ∙ read.sound right e;
  complete = complete;
}
  where
    complete : (right : Rhs) → right_side_type types right ≡ Some t → bytes ≡ right_side_text inputs right → found ≡ Some right
    complete (rhs.Const v) typed e = absurd (has_it 91 net indices (ap (lacks 91) (sym whole ∙ e) ∙ value_lacks 91 v refl refl))
    complete (rhs.Invert a) typed e = absurd (plain.no_tilde _ e)
    complete (rhs.Bin op a b) typed e = absurd (has_it 32 (net_text inputs a) (sign_text op ++ (codes " " ++ net_text inputs b)) (ap (lacks 32) (sym e) ∙ spaceless))
    complete (rhs.Choose c a b) typed e = absurd (has_it 32 (net_text inputs c) (codes "? " ++ (net_text inputs a ++ (codes " : " ++ net_text inputs b))) (ap (lacks 32) (sym e) ∙ spaceless))
    complete (rhs.Bit a i) typed e =
        let split = split_once 91 net (net_text inputs a) indices (decimal i ++ codes "]") clean (net_lacks 91 inputs a refl) (sym whole ∙ e) in
        read.bit (a, i) (bit_below types a i t typed) (record { net_is = split.before; index_is = split.after })
    complete (rhs.Slice a h l) typed e =
        let tail = decimal h ++ (codes ":" ++ (decimal l ++ codes "]")) in
        let split = split_once 91 net (net_text inputs a) indices tail clean (net_lacks 91 inputs a refl) (sym whole ∙ e) in
        read.slice (a, h, l) (slice_below types a h l t typed) (record { net_is = split.before; indices_are = split.after })
    complete (rhs.Concat a b) typed e = absurd (plain.no_brace _ e)

pub constant_form : (types : NetTypes) (inputs : List Port) (t : Ty) (bytes : List ℕ) (found : Option Rhs)
    → IsPlain bytes → lacks 32 bytes ≡ true → lacks 91 bytes ≡ true
    → Makes (λ value. IsValue value × (type_of value ≡ t)) (λ value. bytes ≡ constant_text value) (λ value. rhs.Const value) found → ReadsForm types inputs t bytes found
constant_form types inputs t bytes found plain spaceless bracketless made = record {
  sound = λ right e. sound right (made.sound right e);
  complete = complete;
}
  where
    sound : (right : Rhs) → IsMade (λ value. bytes ≡ constant_text value) (λ value. rhs.Const value) right → bytes ≡ right_side_text inputs right
    sound right m = m.there ∙ ap (right_side_text inputs) (sym m.made)

    value : (v : Value) → constant_type v ≡ Some t → IsValue v × (type_of v ≡ t)
    value v typed = by (is_value v) refl typed
      where
        by : (b : Bool) → is_value v ≡ b → (if b then Some (type_of v) else None) ≡ Some t → IsValue v × (type_of v ≡ t)
        by false is e = absurd cc
        by true is e =
            let parts = and_parts (is_type (type_of v)) (nat_lt (bits_of v) (2 ^ width_of (type_of v))) is in
            let ends = and_parts (nat_le 1 (width_of (type_of v))) (nat_le (width_of (type_of v)) 64) parts.0 in
            (record { typed = record { at_least_1 = leb-true _ _ ends.0; at_most_64 = leb-true _ _ ends.1 }; fits = ltb-true _ _ parts.1 }, cc)

    complete : (right : Rhs) → right_side_type types right ≡ Some t → bytes ≡ right_side_text inputs right → found ≡ Some right
    complete (rhs.Const v) typed e = made.complete v (value v typed) e
    complete (rhs.Invert a) typed e = absurd (plain.no_tilde _ e)
    complete (rhs.Bin op a b) typed e = absurd (has_it 32 (net_text inputs a) (sign_text op ++ (codes " " ++ net_text inputs b)) (ap (lacks 32) (sym e) ∙ spaceless))
    complete (rhs.Choose c a b) typed e = absurd (has_it 32 (net_text inputs c) (codes "? " ++ (net_text inputs a ++ (codes " : " ++ net_text inputs b))) (ap (lacks 32) (sym e) ∙ spaceless))
    complete (rhs.Bit a i) typed e = absurd (has_it 91 (net_text inputs a) (decimal i ++ codes "]") (ap (lacks 91) (sym e) ∙ bracketless))
    complete (rhs.Slice a h l) typed e = absurd (has_it 91 (net_text inputs a) (decimal h ++ (codes ":" ++ (decimal l ++ codes "]"))) (ap (lacks 91) (sym e) ∙ bracketless))
    complete (rhs.Concat a b) typed e = absurd (plain.no_brace _ e)

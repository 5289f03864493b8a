-- The words that are printed of parts of statements, of declarations and of formals spell them again.
use Rattle.std.proofs.Common.{◌≡◌, ℕ, Bool, true, false, List, [], ◌∷◌, ◌++◌, map, Option, sym, refl, ap, ap₂, ◌∙◌, subst}
use Rattle.qz_syntax.specs.declared.declarations.Class.{Class}
use Rattle.qz_syntax.specs.declared.declarations.Class.TheVariants as class
use Rattle.qz_syntax.specs.declared.files.TypeText.{TypeText}
use Rattle.qz_syntax.specs.declared.files.TypeText.TheVariants as type
use Rattle.qz_syntax.specs.declared.files.FileDecl.{FileDecl}
use Rattle.qz_syntax.specs.declared.file_expressions.NameAt.{NameAt}
use Rattle.qz_syntax.specs.declared.file_expressions.FileExpr.{FileExpr}
use Rattle.qz_syntax.specs.declared.file_statements.Cond.{Cond}
use Rattle.qz_syntax.specs.declared.file_statements.Target.{Target}
use Rattle.qz_syntax.specs.declared.file_statements.FileStmt.{FileStmt}
use Rattle.qz_syntax.specs.declared.file_statements.FileStmt.TheVariants as stmt
use Rattle.qz_phrases.specs.declared.words.Word.{Word}
use Rattle.qz_phrases.specs.declared.words.Word.TheVariants as word
use Rattle.qz_phrases.specs.declared.words.Sort.{Sort}
use Rattle.qz_phrases.specs.declared.words.Sort.TheVariants as sort
use Rattle.qz_phrases.specs.declared.words.Mark.TheVariants as mark
use Rattle.qz_phrases.specs.declared.words.Spot.{Spot}
use Rattle.qz_phrases.specs.declared.words.TargetStart.{TargetStart}
use Rattle.qz_phrases.specs.declared.words.TargetStart.TheVariants as target
use Rattle.qz_phrases.specs.declared.words.EmitStart.{EmitStart}
use Rattle.qz_phrases.specs.declared.words.EmitStart.TheVariants as emit
use Rattle.qz_phrases.specs.declared.words.TypeStart.{TypeStart}
use Rattle.qz_phrases.specs.declared.words.TypeStart.TheVariants as typed
use Rattle.qz_phrases.specs.declared.words.TypingStart.{TypingStart}
use Rattle.qz_phrases.specs.declared.words.TypingStart.TheVariants as typing
use Rattle.qz_phrases.specs.Words.{first, class_mark, type_start, typing_start, target_start, emit_start}
use Rattle.qz_phrases.specs.Phrases.{one}
use Rattle.qz_phrases.specs.Declarations.{type_row, a_type, type_or_bool_row, typing_row, a_typing, next_name, names, a_decl}
use Rattle.qz_phrases.specs.StatementParts.{a_cond, next_target, target_row, a_target, a_value, awaited, next_arg, emitted_row, emitted}
use Rattle.qz_printer.specs.Expressions.{one as word_one, name_words, expr_words}
use Rattle.qz_printer.specs.Declarations.{type_words, listed, decl_words}
use Rattle.qz_printer.specs.Statements.{cond_words, target_words, closing_words}
use Rattle.printer_laws.specs.Offsets.{plain_name, plain_type, plain_decl}
use Rattle.printer_laws.proofs.Keeping.{Fine, FineWords, Says, Free, Same, Kept, Keeps, keep_none, keep_one, keep_name, keep_number, SameName, keep_seq, keep_meant, keep_mean, keep_first, used_class}
use Rattle.printer_laws.proofs.KeepingLists.{prints_are, keep_several}
use Rattle.printer_laws.proofs.PlainForms.{SameExpr, SameCond, SameTarget, SameStmt}
use Rattle.printer_laws.proofs.KeepingExpressions.{keep_expr}

pub keep_cond : {F : Sort → Sort → Type 0} (levels : ℕ) → Keeps F Same cond_words SameCond (a_cond levels) (a_cond levels)
keep_cond levels = keep_mean (λ p. record { at = p.0; expr = p.1.0 }) (λ p. refl) (λ p q same. ap (λ e. record { at = 0; expr = e }) same.1.0)
    (keep_seq {G = Same} (keep_one mark.OpenParen tt) (keep_seq (keep_expr 1 levels) (keep_one mark.CloseParen tt)))

pub keep_next_target : {F : Sort → Sort → Type 0} → Keeps F Same target_words SameTarget next_target next_target
keep_next_target = keep_mean (λ p. record { next = true; name = p.1.1.0 }) (λ p. refl) (λ p q same. ap (λ n. record { next = true; name = n }) same.1.1.0)
    (keep_seq {G = Same} (keep_one mark.Next tt) (keep_seq {G = Same} (keep_one mark.OpenParen tt) (keep_seq {G = Same} keep_name (keep_one mark.CloseParen tt))))

keep_target_row : {F : Sort → Sort → Type 0} (t : TargetStart) → Keeps F Same target_words SameTarget (target_row t) (target_row t)
keep_target_row target.Name = keep_mean (λ n. record { next = false; name = n }) (λ n. refl) (λ n m same. ap (λ k. record { next = false; name = k }) same) keep_name
keep_target_row target.Next = keep_next_target
keep_target_row target.None = keep_none target_words SameTarget (target_row target.None)

keep_target : {F : Sort → Sort → Type 0} → Keeps F Same target_words SameTarget a_target a_target
keep_target = keep_first (λ w. keep_target_row (target_start w))

abbrev pub value_words : ℕ × FileExpr → List Word
value_words v = word.Mark mark.Equals ∷ (expr_words v.1 ++ word_one mark.Semicolon)

abbrev pub SameValue : ℕ × FileExpr → ℕ × FileExpr → Type 0
SameValue v w = SameExpr v.1 w.1

pub keep_value : {F : Sort → Sort → Type 0} (levels : ℕ) → Keeps F Same value_words SameValue (a_value levels) (a_value levels)
keep_value levels = keep_mean (λ p. (p.0, p.1.0)) (λ p. refl) (λ p q same. same.1.0) (keep_seq {G = Same} (keep_one mark.Equals tt) (keep_seq (keep_expr 1 levels) (keep_one mark.Semicolon tt)))

-- `await`, where these are its words
pub keep_awaited : {F : Sort → Sort → Type 0} (p : FileStmt → List Word) (l k : Option NameAt) (immediate : Bool) (levels : ℕ)
    → ((c : Cond) → p (stmt.Await l immediate c) ≡ word.Mark mark.Await ∷ closing_words c) → ((c : Cond) → p (stmt.Await k immediate c) ≡ word.Mark mark.Await ∷ closing_words c)
    → ((c d : Cond) → SameCond c d → SameStmt (stmt.Await l immediate c) (stmt.Await k immediate d)) → Keeps F Same p SameStmt (awaited l immediate levels) (awaited k immediate levels)
keep_awaited p l k immediate levels here there same =
    keep_meant (λ q. stmt.Await l immediate q.1.0) (λ q. stmt.Await k immediate q.1.0) (λ q ws rest is. here q.1.0) (λ q ws rest is. there q.1.0) (λ q r e. same q.1.0 r.1.0 e.1.0)
    (keep_seq {G = Same} (keep_one mark.Await tt) (keep_seq {G = Same} (keep_cond levels) (keep_one mark.Semicolon tt)))

abbrev pub next_words : FileExpr → List Word
next_words e = word.Mark mark.Comma ∷ expr_words e

pub keep_next_arg : (levels : ℕ) → Keeps Same Same next_words SameExpr (next_arg levels) (next_arg levels)
keep_next_arg levels = keep_mean (λ p. p.1) (λ p. refl) (λ p q same. same.1) (keep_seq {G = Same} (keep_one mark.Comma tt) (keep_expr 1 levels))

-- The target of an `emit`, printed without parentheses.
target_begins : (w : Sort) (t : Target) (vs more : List Spot) → target_row (target_start w) t vs more → emit.Target ≡ emit_start w
target_begins (sort.Mark mark.OpenParen) t vs more is = absurd is
target_begins w t vs more is = refl

bare_target : (t : Target) (us rest : List Spot) → a_target t us rest → (ws vs more : List Spot) → Says vs (target_words t) more → Kept Free target_words SameTarget emitted t ws vs more
bare_target t us rest is ws vs more says =
    let a = (keep_target {F = Free}).to t us rest is vs more says tt in
    let row : emitted_row (emit_start (first vs)) a.value vs more = subst (λ e. emitted_row e a.value vs more) (target_begins (first vs) a.value vs more a.is) a.is in
    record { value = a.value; is = row; same = a.same; again = a.again; begins = tt }

emitted_kept : (e : EmitStart) (t : Target) (ws rest : List Spot) → emitted_row e t ws rest → (vs more : List Spot) → Says vs (target_words t) more → Kept Free target_words SameTarget emitted t ws vs more
emitted_kept emit.Target t ws rest is vs more says = bare_target t ws rest is ws vs more says
emitted_kept emit.Paren t ws rest is vs more says =
    let inside : a_target t is.2.0 is.2.2.0 = subst (λ u. a_target u is.2.0 is.2.2.0) (sym is.1) is.2.2.1 in
    bare_target t is.2.0 is.2.2.0 inside ws vs more says

emitted_fine : (e : EmitStart) (t : Target) (ws rest : List Spot) → emitted_row e t ws rest → Fine ws → FineWords (target_words t) × Fine rest
emitted_fine emit.Target t ws rest is fine = (keep_target {F = Free}).fine t ws rest is fine
emitted_fine emit.Paren t ws rest is fine =
    let inside : a_target t is.2.0 is.2.2.0 = subst (λ u. a_target u is.2.0 is.2.2.0) (sym is.1) is.2.2.1 in
    let a = (keep_one {F = Free} mark.OpenParen tt).fine is.0.0 ws is.2.0 is.2.1 fine in
    let b = (keep_target {F = Free}).fine t is.2.0 is.2.2.0 inside a.1 in
    let c = (keep_one {F = Free} mark.CloseParen tt).fine is.0.1.1 is.2.2.0 rest is.2.2.2 b.1 in
    (b.0, c.1)

pub keep_emitted : {F : Sort → Sort → Type 0} → Keeps F Free target_words SameTarget emitted emitted
keep_emitted = record {
  to = λ t ws rest is vs more says next. emitted_kept (emit_start (first ws)) t ws rest is vs more says;
  fine = λ t ws rest is fine. emitted_fine (emit_start (first ws)) t ws rest is fine;
}

-- types
abbrev pub SameType : TypeText → TypeText → Type 0
SameType t u = plain_type t ≡ plain_type u

keep_type_row : {F : Sort → Sort → Type 0} (t : TypeStart) → Keeps F Same type_words SameType (type_row t) (type_row t)
keep_type_row typed.Bool = keep_mean (λ _. type.Bool) (λ _. refl) (λ x y same. refl) (keep_one mark.Bool tt)
keep_type_row typed.Bv = keep_mean (λ p. type.Bv p.1.1.0.0 p.1.1.0.1) (λ _. refl) (λ p q same. ap (λ n. type.Bv n 0) same.1.1.0)
    (keep_seq {G = Same} (keep_one mark.Bv tt) (keep_seq {G = Same} (keep_one mark.OpenBracket tt) (keep_seq {G = Same} keep_number (keep_one mark.CloseBracket tt))))
keep_type_row typed.None = keep_none type_words SameType (type_row typed.None)

keep_type : {F : Sort → Sort → Type 0} → Keeps F Same type_words SameType a_type a_type
keep_type = keep_first (λ w. keep_type_row (type_start w))

-- words that spell a type
abbrev close_spots : List Spot
close_spots = record { word = word.Mark mark.CloseBracket; at = 0 } ∷ []

abbrev width_spots : ℕ → List Spot
width_spots width = record { word = word.Number width; at = 0 } ∷ close_spots

abbrev open_spots : ℕ → List Spot
open_spots width = record { word = word.Mark mark.OpenBracket; at = 0 } ∷ width_spots width

abbrev type_spots : TypeText → List Spot
type_spots type.Bool = record { word = word.Mark mark.Bool; at = 0 } ∷ []
type_spots (type.Bv width at) = record { word = word.Mark mark.Bv; at = 0 } ∷ open_spots width

type_spelled : (t : TypeText) → a_type (plain_type t) (type_spots t) []
type_spelled type.Bool = (0, refl, refl)
type_spelled (type.Bv width at) = ((0, (0, ((width, 0), 0))), refl, (open_spots width, refl, (width_spots width, refl, (close_spots, refl, refl))))

plain_words : (t : TypeText) → type_words (plain_type t) ≡ type_words t
plain_words type.Bool = refl
plain_words (type.Bv width at) = refl

plain_twice : (t : TypeText) → plain_type t ≡ plain_type (plain_type t)
plain_twice type.Bool = refl
plain_twice (type.Bv width at) = refl

is_or_bool : (s : TypeStart) (t : TypeText) (vs more : List Spot) → type_row s t vs more → a_type t vs more → type_or_bool_row s t vs more
is_or_bool typed.Bool t vs more row is = is
is_or_bool typed.Bv t vs more row is = is
is_or_bool typed.None t vs more row is = absurd row

-- a class and a type, both of them written
abbrev pub typing_words : Class × TypeText → List Word
typing_words p = word.Mark (class_mark p.0) ∷ type_words p.1

abbrev pub SameTyping : Class × TypeText → Class × TypeText → Type 0
SameTyping p q = (p.0 ≡ q.0) × (plain_type p.1 ≡ plain_type q.1)

class_start : (c : Class) → typing.Class c ≡ typing_start (sort.Mark (class_mark c))
class_start class.Event = refl
class_start class.Mem = refl

spot_is : (t : Spot) (w : Word) → t.word ≡ w → t ≡ record { word = w; at = t.at }
spot_is t w e = ap (λ (u : Word). record t { word = u }) e

-- where these words stand, they spell it
pub record Typed (x : Class × TypeText) (vs more : List Spot) : Type 0 where
  pub value : Class × TypeText
  pub is : a_typing value vs more
  pub same : SameTyping x value
  pub again : typing_words value ≡ typing_words x
  pub begins : first vs ≡ sort.Mark (class_mark x.0)

pub typing_written : (c : Class) (t : TypeText) (vs more : List Spot) → Says vs (typing_words (c, t)) more → Typed (c, t) vs more
typing_written c t [] more says = absurd says
typing_written c t (v ∷ vs) more says =
    let a = (keep_type {F = Free}).to (plain_type t) (type_spots t) [] (type_spelled t) vs more (subst (λ l. Says vs l more) (sym (plain_words t)) says.1) tt in
    let begins : sort.Mark (class_mark c) ≡ first (v ∷ vs) = ap (λ (w : Word). first (record { word = w; at = v.at } ∷ vs)) (sym says.0) in
    let row : typing_row (typing.Class c) (c, a.value) (v ∷ vs) more =
    ((v.at, a.value), refl, (vs, ap (λ s. s ∷ vs) (spot_is v (word.Mark (class_mark c)) says.0), is_or_bool (type_start (first vs)) a.value vs more a.is a.is)) in
    record {
      value = (c, a.value);
      is = subst (λ s. typing_row s (c, a.value) (v ∷ vs) more) (class_start c ∙ ap typing_start begins) row;
      same = (refl, plain_twice t ∙ a.same);
      again = ap (λ l. word.Mark (class_mark c) ∷ l) (a.again ∙ plain_words t);
      begins = sym begins;
    }

or_bool_fine : (s : TypeStart) (t : TypeText) (ws rest : List Spot) → type_or_bool_row s t ws rest → Fine ws → FineWords (type_words t) × Fine rest
or_bool_fine typed.Bool t ws rest is fine = (keep_type {F = Free}).fine t ws rest is fine
or_bool_fine typed.Bv t ws rest is fine = (keep_type {F = Free}).fine t ws rest is fine
or_bool_fine typed.None t ws rest is fine = (subst (λ u. FineWords (type_words u)) (sym is.0) (tt, tt), subst Fine is.1 fine)

typing_row_fine : (s : TypingStart) (x : Class × TypeText) (ws rest : List Spot) → typing_row s x ws rest → Fine ws → FineWords (typing_words x) × Fine rest
typing_row_fine (typing.Class c) x ws rest is fine =
    let a = (keep_one {F = Free} (class_mark c) (used_class c)).fine is.0.0 ws is.2.0 is.2.1 fine in
    let b = or_bool_fine (type_start (first is.2.0)) is.0.1 is.2.0 rest is.2.2 a.1 in
    (subst (λ y. FineWords (typing_words y)) (sym is.1) (used_class c, b.0), b.1)
typing_row_fine typing.Type x ws rest is fine =
    let a = (keep_type {F = Free}).fine is.0 ws rest is.2 fine in
    (subst (λ y. FineWords (typing_words y)) (sym is.1) (tt, a.0), a.1)
typing_row_fine typing.None x ws rest is fine = absurd is

pub typing_fine : (x : Class × TypeText) (ws rest : List Spot) → a_typing x ws rest → Fine ws → FineWords (typing_words x) × Fine rest
typing_fine x ws rest is fine = typing_row_fine (typing_start (first ws)) x ws rest is fine

keep_typing : {F : Sort → Sort → Type 0} → Keeps F Free typing_words SameTyping a_typing a_typing
keep_typing = record {
  to = λ x ws rest is vs more says next. let a = typing_written x.0 x.1 vs more says in record { value = a.value; is = a.is; same = a.same; again = a.again; begins = tt };
  fine = typing_fine;
}

-- names
abbrev next_name_words : NameAt → List Word
next_name_words n = word.Mark mark.Comma ∷ name_words n

keep_next_name : {F : Sort → Sort → Type 0} → Keeps F Same next_name_words SameName next_name next_name
keep_next_name = keep_mean (λ p. p.1) (λ p. refl) (λ p q same. same.1) (keep_seq {G = Same} (keep_one mark.Comma tt) keep_name)

abbrev names_words : List NameAt → List Word
names_words ns = listed name_words ns ++ word_one mark.Semicolon

abbrev SameNames : List NameAt → List NameAt → Type 0
SameNames ns ms = map plain_name ns ≡ map plain_name ms

keep_names : {F : Sort → Sort → Type 0} → Keeps F Same names_words SameNames names names
keep_names = keep_mean (λ p. p.0 ∷ p.1.0) (λ p. ap (λ l. word.Name p.0.name ∷ l) (sym (prints_are next_name_words (λ (at : ℕ). word_one mark.Semicolon) p.1.0 p.1.1)))
    (λ p q same. ap₂ (λ n ns. n ∷ ns) same.0 same.1.0)
    (keep_seq {G = Same} keep_name (keep_several plain_name next_name (one mark.Semicolon) keep_next_name (keep_one mark.Semicolon tt)))

abbrev pub SameDecl : FileDecl → FileDecl → Type 0
SameDecl d e = plain_decl d ≡ plain_decl e

same_decl : (c d : Class) (t u : TypeText) (ns ms : List NameAt) → c ≡ d → plain_type t ≡ plain_type u → SameNames ns ms
    → SameDecl (record { class = c; ty = t; names = ns }) (record { class = d; ty = u; names = ms })
same_decl c d t u ns ms e f g = ap (λ k. record { class = k; ty = plain_type t; names = map plain_name ns }) e ∙ ap₂ (λ v l. record { class = d; ty = v; names = l }) f g

pub keep_decl : {F : Sort → Sort → Type 0} → Keeps F Free decl_words SameDecl a_decl a_decl
keep_decl = keep_mean (λ p. record { class = p.0.0; ty = p.0.1; names = p.1 }) (λ p. refl) (λ p q same. same_decl p.0.0 q.0.0 p.0.1 q.0.1 p.1 q.1 same.0.0 same.0.1 same.1)
    (keep_seq {G = Same} keep_typing keep_names)

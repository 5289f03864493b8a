-- Locals that are declared after others.
use Rattle.std.proofs.Common.{◌≡◌, ℕ, zero, suc, ◌+◌, ◌<◌, length, take, get_or, map, List, [], ◌∷◌, ◌++◌, refl, sym, ap, ◌∙◌, append-nil, append_assoc, length-append, arith}
use Rattle.std.specs.List.{flat_map, range_with_len}
use Rattle.std.proofs.lemmas.List.{take_more, map-append}
use Rattle.std.proofs.lemmas.Grind.{flat_map-append}
use Rattle.qz_syntax.specs.declared.declarations.Decl.{Decl}
use Rattle.qz_syntax.specs.declared.expressions.Var.{Var}
use Rattle.qz_syntax.specs.declared.expressions.Var.TheVariants as var
use Rattle.qz_syntax.specs.declared.file_expressions.NameAt.{NameAt}
use Rattle.qz_syntax.specs.declared.files.FileDecl.{FileDecl}
use Rattle.qz_types.specs.declared.numbers.Numbers.{Numbers}
use Rattle.qz_types.specs.declared.core_declarations.Locals.{Locals}
use Rattle.qz_types.specs.Meanings.{Meanings}
use Rattle.qz_types.specs.Declarations.{declared}
use Rattle.qz_types.specs.CoreDeclarations.{local_numbers, local_names, core_local, core_decl, core_decls}
use Rattle.qz_types.specs.Makers.{with_locals}
use Rattle.qz_types.specs.DeclaredLocals.{DeclaresLocals}
use Rattle.qz_types.proofs.DeclarationLemmas.{declared_append}

pub range_append : (a m n : ℕ) → range_with_len a (m + n) ≡ range_with_len a m ++ range_with_len (a + m) n
range_append a zero n =
    let e : zero + n ≡ n = omega arith in
    let f : a + zero ≡ a = omega arith in
    rw (e, f) refl
range_append a (suc m) n =
    let e : suc m + n ≡ suc (m + n) = omega arith in
    let f : a + 1 + m ≡ a + suc m = omega arith in
    rw e (ap (λ xs. a ∷ xs) (range_append (a + 1) m n ∙ ap (λ k. range_with_len (a + 1) m ++ range_with_len k n) f))

pub local_numbers_append : (n : ℕ) (xs ys : List NameAt) → local_numbers n (xs ++ ys) ≡ local_numbers n xs ++ local_numbers (n + length xs) ys
local_numbers_append n [] ys = let e : n ≡ n + length {A = NameAt} [] = omega arith in ap (λ k. local_numbers k ys) e
local_numbers_append n (x ∷ xs) ys =
    let e : n + 1 + length xs ≡ n + length (x ∷ xs) = omega arith in
    ap (λ rest. record { name = x; meaning = var.Local n } ∷ rest)
    (local_numbers_append (n + 1) xs ys ∙ ap (λ k. local_numbers (n + 1) xs ++ local_numbers k ys) e)

-- some locals, and then some more
pub declares_locals_more : (xs ys : List NameAt) (ds es : List Decl) (a b c : Meanings Var) (k l m : Numbers) (p q r : Locals)
    → DeclaresLocals xs ds a b k l p q → DeclaresLocals ys es b c l m q r → DeclaresLocals (xs ++ ys) (ds ++ es) a c k m p r
declares_locals_more xs ys ds es a b c k l m p q r some more =
    let counted : length l.decls ≡ length k.decls + length xs =
    ap (λ (n : Numbers). length n.decls) some.next ∙ length-append k.decls ds ∙ ap (λ n. length k.decls + n) some.as_many in
    record {
      as_many = omega (arith, length-append ds es, length-append xs ys, some.as_many, more.as_many);
      names = more.names ∙ ap (λ n. declared (local_numbers n ys) b) counted
          ∙ ap (declared (local_numbers (length k.decls + length xs) ys)) some.names
          ∙ sym (declared_append (local_numbers (length k.decls) xs) (local_numbers (length k.decls + length xs) ys) a)
          ∙ ap (λ ds. declared ds a) (sym (local_numbers_append (length k.decls) xs ys));
      next = more.next ∙ ap (λ n. with_locals n es) some.next ∙ ap (λ (ds : List Decl). record k { decls = ds }) (append_assoc k.decls ds es);
      numbers = more.numbers ∙ ap (λ ns. ns ++ range_with_len (length l.decls) (length ys)) some.numbers
          ∙ append_assoc p.numbers (range_with_len (length k.decls) (length xs)) (range_with_len (length l.decls) (length ys))
          ∙ ap (λ n. p.numbers ++ (range_with_len (length k.decls) (length xs) ++ range_with_len n (length ys))) counted
          ∙ ap (λ ns. p.numbers ++ ns) (sym (range_append (length k.decls) (length xs) (length ys)))
          ∙ ap (λ n. p.numbers ++ range_with_len (length k.decls) n) (sym (length-append xs ys));
      undone = more.undone ∙ some.undone;
    }

-- what one thing more of a list gives
take_next : {X : Type 0} (xs : List X) (i : ℕ) (x : X) → i < length xs → x ≡ get_or xs i x → take (i + 1) xs ≡ take i xs ++ x ∷ []
take_next xs i x within is = take_more xs i x within ∙ ap (λ y. take i xs ++ y ∷ []) (sym is)

flat_map_next : {X Y : Type 0} (f : X → List Y) (xs : List X) (i : ℕ) (x : X) → i < length xs → x ≡ get_or xs i x
    → flat_map f (take (i + 1) xs) ≡ flat_map f (take i xs) ++ f x
flat_map_next f xs i x within is =
    ap (flat_map f) (take_next xs i x within is) ∙ flat_map-append f (take i xs) (x ∷ []) ∙ ap (λ ys. flat_map f (take i xs) ++ ys) (append-nil (f x))

-- one declaration more
pub declares_locals_next : (decls : List FileDecl) (i : ℕ) (d : FileDecl) (a b c : Meanings Var) (k l m : Numbers) (p q r : Locals)
    → i < length decls → d ≡ get_or decls i d
    → DeclaresLocals (local_names (take i decls)) (core_decls (take i decls)) a b k l p q → DeclaresLocals d.names (core_decl d) b c l m q r
    → DeclaresLocals (local_names (take (i + 1) decls)) (core_decls (take (i + 1) decls)) a c k m p r
declares_locals_next decls i d a b c k l m p q r within is some more =
    rw (flat_map_next (λ (decl : FileDecl). decl.names) decls i d within is, flat_map_next core_decl decls i d within is)
    (declares_locals_more (local_names (take i decls)) d.names (core_decls (take i decls)) (core_decl d) a b c k l m p q r some more)

-- one name more of a declaration
pub declares_names_next : (decl : FileDecl) (names : List NameAt) (i : ℕ) (x : NameAt) (a b c : Meanings Var) (k l m : Numbers) (p q r : Locals)
    → i < length names → x ≡ get_or names i x
    → DeclaresLocals (take i names) (map (core_local decl) (take i names)) a b k l p q → DeclaresLocals (x ∷ []) (core_local decl x ∷ []) b c l m q r
    → DeclaresLocals (take (i + 1) names) (map (core_local decl) (take (i + 1) names)) a c k m p r
declares_names_next decl names i x a b c k l m p q r within is some more =
    rw (take_next names i x within is, map-append (core_local decl) (take i names) (x ∷ []))
    (declares_locals_more (take i names) (x ∷ []) (map (core_local decl) (take i names)) (core_local decl x ∷ []) a b c k l m p q r some more)

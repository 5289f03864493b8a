-- Formals and modules, as they are read.
use Rattle.std.proofs.Common.{◌≡◌, ℕ, List, [], ◌∷◌, ◌++◌, codes, append_assoc, sym, refl, ap, ap₂, ◌∙◌}
use Rattle.qz_syntax.specs.declared.declarations.Formal.{Formal}
use Rattle.qz_first.specs.declared.source.SourceModule.{SourceModule}
use Rattle.qz_first.specs.Grammar.{block_spelling, output, IsOutput, AreOutputs, formal_spelling, later_formals_spelling, formals_spelling, FitsModule, module_spelling}
use Rattle.qz_first.specs.Reading.{NoText, NoBlock, NoFormal, NoFormals, NoModule}
use Rattle.qz_first.proofs.GrammarLemmas.{differ, one_block_of}

-- what follows each comma, of some formals
abbrev pub comma_spelling : List Formal → List (List ℕ)
comma_spelling [] = []
comma_spelling (formal ∷ formals) = codes "," ∷ (formal_spelling formal ++ comma_spelling formals)

comma_spelling-end : (formals : List Formal) (rest : List (List ℕ)) → comma_spelling formals ++ codes ")" ∷ rest ≡ later_formals_spelling formals ++ rest
comma_spelling-end [] rest = refl
comma_spelling-end (formal ∷ formals) rest = ap (λ xs. codes "," ∷ codes "event" ∷ codes "!" ∷ formal.name ∷ xs) (comma_spelling-end formals rest)

comma_spelling-more : (formals : List Formal) (formal : Formal) → comma_spelling (formals ++ formal ∷ []) ≡ comma_spelling formals ++ codes "," ∷ formal_spelling formal
comma_spelling-more [] formal = refl
comma_spelling-more (first ∷ formals) formal = ap (λ xs. codes "," ∷ codes "event" ∷ codes "!" ∷ first.name ∷ xs) (comma_spelling-more formals formal)

outputs_more : (formals : List Formal) (formal : Formal) → AreOutputs formals → IsOutput formal → AreOutputs (formals ++ formal ∷ [])
outputs_more [] formal are is = (is, tt)
outputs_more (first ∷ formals) formal are is = (are.0, outputs_more formals formal are.1 is)

-- of a list of formals these are read, at least one, and the rest of it comes next
pub record FormalsSoFar (whole : List (List ℕ)) (formals : List Formal) (upcoming : List (List ℕ)) : Type 0 where
  pub outputs : AreOutputs formals
  pub first : Formal
  pub more : List Formal
  pub are : formals ≡ first ∷ more
  pub read : whole ≡ formal_spelling first ++ (comma_spelling more ++ upcoming)
  pub only : (others : List Formal) (rest : List (List ℕ)) → AreOutputs others → whole ≡ formals_spelling others ++ rest
      → (later : List Formal) × AreOutputs later × (upcoming ≡ later_formals_spelling later ++ rest)

-- one formal is spelled so, and what follows is determined
pub one_formal : (formal other : Formal) (r q : List (List ℕ)) → formal_spelling formal ++ r ≡ formal_spelling other ++ q → r ≡ q
one_formal formal other r q e = cc

pub first_formal : (whole upcoming : List (List ℕ)) (formal : Formal) → NoText (codes ")") whole → IsOutput formal → whole ≡ formal_spelling formal ++ upcoming
    → FormalsSoFar whole (formal ∷ []) upcoming
first_formal whole upcoming formal no_end is e = record {
  outputs = (is, tt);
  first = formal;
  more = [];
  are = refl;
  read = e;
  only = λ (others : List Formal) (rest : List (List ℕ)) (are : AreOutputs others) (f : whole ≡ formals_spelling others ++ rest).
      elim others as (λ xs. AreOutputs xs → whole ≡ formals_spelling xs ++ rest → (later : List Formal) × AreOutputs later × (upcoming ≡ later_formals_spelling later ++ rest)) [
        | [] ↦ λ are f. absurd (no_end.none rest f)
        | other ∷ more ↦ λ are f. (more, are.1, one_formal formal other upcoming (later_formals_spelling more ++ rest) (sym e ∙ f))
      ] are f;
}

module _ (whole : List (List ℕ)) (formals : List Formal) (upcoming : List (List ℕ)) (so_far : FormalsSoFar whole formals upcoming) where
  pub one_formal_more : (after last : List (List ℕ)) (formal : Formal) → upcoming ≡ codes "," ∷ after → IsOutput formal → after ≡ formal_spelling formal ++ last
      → FormalsSoFar whole (formals ++ formal ∷ []) last
  one_formal_more after last formal comma is e = record {
    outputs = outputs_more formals formal so_far.outputs is;
    first = so_far.first;
    more = so_far.more ++ formal ∷ [];
    are = ap (λ xs. xs ++ formal ∷ []) so_far.are;
    read = so_far.read ∙ ap (λ xs. formal_spelling so_far.first ++ (comma_spelling so_far.more ++ xs)) (comma ∙ ap (λ xs. codes "," ∷ xs) e)
        ∙ ap (λ xs. formal_spelling so_far.first ++ xs) (sym (append_assoc (comma_spelling so_far.more) (codes "," ∷ formal_spelling formal) last) ∙ ap (λ xs. xs ++ last) (sym (comma_spelling-more so_far.more formal)));
    only = λ (others : List Formal) (rest : List (List ℕ)) (are : AreOutputs others) (f : whole ≡ formals_spelling others ++ rest).
        let before = so_far.only others rest are f in
        elim (before.0) as (λ later. AreOutputs later → upcoming ≡ later_formals_spelling later ++ rest → (more : List Formal) × AreOutputs more × (last ≡ later_formals_spelling more ++ rest)) [
          | [] ↦ λ are f. absurd (differ (codes ",") (codes ")") after rest refl (sym comma ∙ f))
          | other ∷ more ↦ λ are f.
              let g : after ≡ formal_spelling other ++ (later_formals_spelling more ++ rest) = cc (sym comma ∙ f) in
              (more, are.1, one_formal formal other last (later_formals_spelling more ++ rest) (sym e ∙ g))
        ] before.1 before.2;
  }

  pub no_later_formal : (after : List (List ℕ)) → upcoming ≡ codes "," ∷ after → NoFormal after → NoFormals whole
  no_later_formal after comma no_formal = record {
    none = λ (others : List Formal) (rest : List (List ℕ)) (are : AreOutputs others) (f : whole ≡ formals_spelling others ++ rest).
        let before = so_far.only others rest are f in
        elim (before.0) as (λ later. AreOutputs later → upcoming ≡ later_formals_spelling later ++ rest → ⊥) [
          | [] ↦ λ are f. differ (codes ",") (codes ")") after rest refl (sym comma ∙ f)
          | other ∷ more ↦ λ are f.
              let g : after ≡ formal_spelling other ++ (later_formals_spelling more ++ rest) = cc (sym comma ∙ f) in
              no_formal.none other (later_formals_spelling more ++ rest) are.0 g
        ] before.1 before.2;
  }

  pub no_end_of_formals : NoText (codes ",") upcoming → NoText (codes ")") upcoming → NoFormals whole
  no_end_of_formals no_comma no_end = record {
    none = λ (others : List Formal) (rest : List (List ℕ)) (are : AreOutputs others) (f : whole ≡ formals_spelling others ++ rest).
        let before = so_far.only others rest are f in
        elim (before.0) as (λ later. AreOutputs later → upcoming ≡ later_formals_spelling later ++ rest → ⊥) [
          | [] ↦ λ are f. no_end.none rest f
          | other ∷ more ↦ λ are f. no_comma.none (formal_spelling other ++ (later_formals_spelling more ++ rest)) f
        ] before.1 before.2;
  }

  pub formals_read : (after : List (List ℕ)) → upcoming ≡ codes ")" ∷ after → whole ≡ formals_spelling formals ++ after
  formals_read after end =
      so_far.read ∙ ap (λ xs. formal_spelling so_far.first ++ (comma_spelling so_far.more ++ xs)) end
      ∙ ap (λ xs. formal_spelling so_far.first ++ xs) (comma_spelling-end so_far.more after)
      ∙ ap (λ xs. formals_spelling xs ++ after) (sym so_far.are)

-- no formals where the first isn't one
pub no_first_formal : (whole : List (List ℕ)) → NoText (codes ")") whole → NoFormal whole → NoFormals whole
no_first_formal whole no_end no_formal = record {
  none = λ (others : List Formal) (rest : List (List ℕ)) (are : AreOutputs others) (f : whole ≡ formals_spelling others ++ rest).
      elim others as (λ xs. AreOutputs xs → whole ≡ formals_spelling xs ++ rest → ⊥) [
        | [] ↦ λ are f. no_end.none rest f
        | other ∷ more ↦ λ are f. no_formal.none other (later_formals_spelling more ++ rest) are.0 f
      ] are f;
}

same_formal : (formal other : Formal) → IsOutput formal → IsOutput other → formal.name ≡ other.name → formal ≡ other
same_formal formal other is was e = is.is ∙ ap output e ∙ sym was.is

one_later : (formals others : List Formal) (r q : List (List ℕ)) → AreOutputs formals → AreOutputs others
    → later_formals_spelling formals ++ r ≡ later_formals_spelling others ++ q → (formals ≡ others) × (r ≡ q)
one_later [] [] r q are were e = (refl, cc)
one_later [] (other ∷ others) r q are were e = absurd (differ (codes ")") (codes ",") r (formal_spelling other ++ (later_formals_spelling others ++ q)) refl e)
one_later (formal ∷ formals) [] r q are were e = absurd (differ (codes ",") (codes ")") (formal_spelling formal ++ (later_formals_spelling formals ++ r)) q refl e)
one_later (formal ∷ formals) (other ∷ others) r q are were e =
    let name : formal.name ≡ other.name = cc in
    let rest : later_formals_spelling formals ++ r ≡ later_formals_spelling others ++ q = cc in
    let later = one_later formals others r q are.1 were.1 rest in
    (ap₂ (λ x xs. x ∷ xs) (same_formal formal other are.0 were.0 name) later.0, later.1)

-- a text begins with at most one list of formals, and what follows is determined
pub one_formals : (formals others : List Formal) (r q : List (List ℕ)) → AreOutputs formals → AreOutputs others
    → formals_spelling formals ++ r ≡ formals_spelling others ++ q → (formals ≡ others) × (r ≡ q)
one_formals [] [] r q are were e = (refl, cc)
one_formals [] (other ∷ others) r q are were e =
    absurd (differ (codes ")") (codes "event") r (codes "!" ∷ other.name ∷ (later_formals_spelling others ++ q)) refl e)
one_formals (formal ∷ formals) [] r q are were e =
    absurd (differ (codes "event") (codes ")") (codes "!" ∷ formal.name ∷ (later_formals_spelling formals ++ r)) q refl e)
one_formals (formal ∷ formals) (other ∷ others) r q are were e =
    let name : formal.name ≡ other.name = cc in
    let rest : later_formals_spelling formals ++ r ≡ later_formals_spelling others ++ q = cc in
    let later = one_later formals others r q are.1 were.1 rest in
    (ap₂ (λ x xs. x ∷ xs) (same_formal formal other are.0 were.0 name) later.0, later.1)

-- a module's tokens, with what follows the formals apart
module_spelling-split : (m : SourceModule) (rest : List (List ℕ))
    → module_spelling m ++ rest ≡ codes "module" ∷ m.name ∷ codes "(" ∷ (formals_spelling m.formals ++ (codes "{" ∷ (block_spelling m.body ++ rest)))
module_spelling-split m rest =
    ap (λ xs. codes "module" ∷ m.name ∷ codes "(" ∷ xs) (append_assoc (formals_spelling m.formals) (codes "{" ∷ block_spelling m.body) rest)

-- a text begins with at most one module, and what follows is determined
pub one_module : (m n : SourceModule) (r q : List (List ℕ)) → FitsModule m → FitsModule n → module_spelling m ++ r ≡ module_spelling n ++ q → (m ≡ n) × (r ≡ q)
one_module m n r q fits fitted e =
    let f = sym (module_spelling-split m r) ∙ e ∙ module_spelling-split n q in
    let name : m.name ≡ n.name = cc f in
    let after : formals_spelling m.formals ++ (codes "{" ∷ (block_spelling m.body ++ r)) ≡ formals_spelling n.formals ++ (codes "{" ∷ (block_spelling n.body ++ q)) = cc f in
    let formals = one_formals m.formals n.formals (codes "{" ∷ (block_spelling m.body ++ r)) (codes "{" ∷ (block_spelling n.body ++ q)) fits.formals fitted.formals after in
    let inside : block_spelling m.body ++ r ≡ block_spelling n.body ++ q = cc (formals.1) in
    let body = one_block_of m.body n.body r q inside in
    let same : m ≡ n = ap (λ x. record m { name = x }) name ∙ ap (λ x. record m { name = n.name; formals = x }) formals.0 ∙ ap (λ x. record n { body = x }) body.0 in
    (same, body.1)

-- what follows the formals of a module
module _ (upcoming one two three four : List (List ℕ)) (name : List ℕ) (formals : List Formal)
    (module_is : upcoming ≡ codes "module" ∷ one) (name_is : one ≡ name ∷ two) (open_is : two ≡ codes "(" ∷ three)
    (are : AreOutputs formals) (formals_are : three ≡ formals_spelling formals ++ four) where
  module_body : (m : SourceModule) (rest : List (List ℕ)) → FitsModule m → upcoming ≡ module_spelling m ++ rest → four ≡ codes "{" ∷ (block_spelling m.body ++ rest)
  module_body m rest fits e =
      let f = sym module_is ∙ e ∙ module_spelling-split m rest in
      let after : three ≡ formals_spelling m.formals ++ (codes "{" ∷ (block_spelling m.body ++ rest)) = cc (f, name_is, open_is) in
      (one_formals formals m.formals four (codes "{" ∷ (block_spelling m.body ++ rest)) are fits.formals (sym formals_are ∙ after)).1

  pub no_open_brace : NoText (codes "{") four → NoModule upcoming
  no_open_brace no_open = record {
    none = λ (m : SourceModule) (rest : List (List ℕ)) (fits : FitsModule m) (e : upcoming ≡ module_spelling m ++ rest).
        no_open.none (block_spelling m.body ++ rest) (module_body m rest fits e);
  }

  pub no_body : (five : List (List ℕ)) → four ≡ codes "{" ∷ five → NoBlock 2 five → NoModule upcoming
  no_body five brace_is no_parts = record {
    none = λ (m : SourceModule) (rest : List (List ℕ)) (fits : FitsModule m) (e : upcoming ≡ module_spelling m ++ rest).
        let f = sym brace_is ∙ module_body m rest fits e in
        no_parts.none m.body rest fits.body (cc f);
  }

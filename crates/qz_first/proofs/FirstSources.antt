-- What a source describes is a module of the first language.
use Rattle.std.proofs.Common.{◌≡◌, ℕ, zero, suc, ◌+◌, Bool, true, ◌&&◌, List, [], ◌∷◌, ◌++◌, map, length, Option, Some, None, is_some, unwrap_or, refl, sym, ap, ap₂, subst, ◌∙◌, arith, append-nil, lt-ltb}
use Rattle.std.proofs.lemmas.List.{length-replicate, length-map}
use Rattle.std.proofs.lemmas.List.Quantifiers.{position-Some}
use Rattle.std.specs.List.{list_all, concat, range_with_len}
use Rattle.std.specs.Str.{bytes_eq}
use Rattle.std.proofs.lemmas.Bool.{and_parts, false≢true}
use Rattle.qz_values.specs.Values.{yes}
use Rattle.qz_syntax.specs.declared.declarations.Formal.{Formal}
use Rattle.qz_syntax.specs.declared.expressions.Expr.TheVariants.{Lit}
use Rattle.qz_syntax.specs.declared.expressions.Var.TheVariants as variable
use Rattle.qz_syntax.specs.declared.statements.Stmt.{Stmt}
use Rattle.qz_syntax.specs.declared.statements.Stmt.TheOpen.{Stmt-F}
use Rattle.qz_syntax.specs.declared.statements.Stmt.TheVariants as stmt
use Rattle.qz_syntax.specs.Numbers.{places_of, own_places, parts_of}
use Rattle.qz_syntax.proofs.Equations.{fold-Nothing, fold-Assign, fold-Pause, fold-Seq, fold-Loop, fold-Lit}
use Rattle.qz_first.specs.declared.source.SourceModule.{SourceModule}
use Rattle.qz_first.specs.declared.source.SourceStmt.{SourceStmt, map-SourceStmt, roll-SourceStmt}
use Rattle.qz_first.specs.declared.source.SourceStmt.TheOpen.{SourceStmt-F}
use Rattle.qz_first.specs.declared.source.SourceStmt.TheFolds.{fold-roll-SourceStmt, ind-SourceStmt}
use Rattle.qz_first.specs.Mirror.{bit_of, node_bit}
use Rattle.qz_first.specs.FirstLanguage.{is_first, node_is_first, is_event_output, IsFirst}
use Rattle.qz_first.specs.Grammar.{AreOutputs}
use Rattle.qz_syntax.specs.DoubleNames.{formal_names}
use Rattle.qz_first.specs.CoreTree.{number_of, node_emits, emits_among, Core, Cores, in_order, sequence, node_core, core, cores, core_module, IsAsked}

abbrev places_node : Stmt-F (List ℕ) → List ℕ
places_node node = own_places node ++ concat (parts_of node)

-- the literal `true`
literal_true : bit_of (Lit yes) ≡ true
literal_true = fold-Lit Bool node_bit yes

-- numbers that count on
range-append : (from a b : ℕ) → range_with_len from a ++ range_with_len (from + a) b ≡ range_with_len from (a + b)
range-append from zero b =
    let start : from + 0 ≡ from = omega arith in
    let count : 0 + b ≡ b = omega arith in
    ap₂ (λ f n. range_with_len f n) start (sym count)
range-append from (suc a) b =
    let start : from + suc a ≡ (from + 1) + a = omega arith in
    let count : suc a + b ≡ suc (a + b) = omega arith in
    ap (λ f. from ∷ (range_with_len (from + 1) a ++ range_with_len f b)) start
    ∙ (ap (λ ns. from ∷ ns) (range-append (from + 1) a b) ∙ ap (λ n. range_with_len from n) (sym count))

-- a core statement of the first language, whose places count on from these
record Cored (outputs from : ℕ) (c : Core) : Type 0 where
  first : is_first outputs c.stmt ≡ true
  count : ℕ
  places : c.places ≡ from + count
  are : places_of c.stmt ≡ range_with_len from count

record AreCored (outputs from : ℕ) (c : Cores) : Type 0 where
  first : list_all (λ part. part) (map (is_first outputs) c.stmts) ≡ true
  count : ℕ
  places : c.places ≡ from + count
  are : concat (map places_of c.stmts) ≡ range_with_len from count

-- a list as one statement
cored_sequence : (outputs from : ℕ) (stmts : List Stmt) (places loops : ℕ) → AreCored outputs from (record { stmts = stmts; places = places; loops = loops })
    → Cored outputs from (record { stmt = sequence stmts; places = places; loops = loops })
cored_sequence outputs from [] places loops all = record {
  first = fold-Nothing Bool (node_is_first outputs);
  count = all.count;
  places = all.places;
  are = fold-Nothing (List ℕ) places_node ∙ all.are;
}
cored_sequence outputs from (s ∷ []) places loops all = record {
  first = (and_parts _ _ all.first).0;
  count = all.count;
  places = all.places;
  are = sym (append-nil (places_of s)) ∙ all.are;
}
cored_sequence outputs from (s ∷ t ∷ more) places loops all = record {
  first = fold-Seq Bool (node_is_first outputs) (s ∷ t ∷ more) ∙ all.first;
  count = all.count;
  places = all.places;
  are = fold-Seq (List ℕ) places_node (s ∷ t ∷ more) ∙ all.are;
}

module _ (names : List (List ℕ)) where
  abbrev Claim : SourceStmt → Type 0
  Claim s = (places loops : ℕ) → emits_among names s ≡ true → Cored (length names) places (core names s places loops)

  abbrev Proved : Type 0
  Proved = (s : SourceStmt) × Claim s

  abbrev bare_all : List Proved → List SourceStmt
  bare_all parts = map (λ (e : Proved). e.0) parts

  abbrev bare : SourceStmt-F Proved → SourceStmt-F SourceStmt
  bare node = map-SourceStmt Proved SourceStmt (λ e. e.0) node

  all_parts : (parts : List Proved) (places loops : ℕ) → list_all (λ emits. emits) (map (emits_among names) (bare_all parts)) ≡ true
      → AreCored (length names) places (in_order (map (core names) (bare_all parts)) places loops)
  all_parts [] places loops e = record { first = refl; count = 0; places = omega arith; are = refl }
  all_parts (part ∷ parts) places loops e =
      let both = and_parts _ _ e in
      let here = part.1 places loops both.0 in
      let c = core names part.0 places loops in
      let later = all_parts parts c.places c.loops both.1 in
      record {
        first = ap₂ (λ a b. a && b) here.first later.first;
        count = here.count + later.count;
        places = omega (arith, here.places, later.places);
        are = ap₂ (λ a b. a ++ b) here.are (later.are ∙ ap (λ from. range_with_len from later.count) here.places)
            ∙ range-append places here.count later.count;
      }

  emitted : (name : List ℕ) (places loops : ℕ) (found : Option ℕ) → number_of names name ≡ found → is_some found ≡ true
      → Cored (length names) places (record { stmt = stmt.Assign (variable.Formal (unwrap_or found 0)) (Lit yes); places = places; loops = loops })
  emitted name places loops None is e = absurd (false≢true e)
  emitted name places loops (Some number) is e =
      let within = (position-Some (bytes_eq name) names number [] is).0 in
      record {
        first = fold-Assign Bool (node_is_first (length names)) (variable.Formal number) (Lit yes)
            ∙ ap₂ (λ a b. a && b) (lt-ltb number (length names) within) literal_true;
        count = 0;
        places = omega arith;
        are = fold-Assign (List ℕ) places_node (variable.Formal number) (Lit yes);
      }

  at_node : (node : SourceStmt-F Proved) (places loops : ℕ)
      → node_emits names (map-SourceStmt SourceStmt Bool (emits_among names) (bare node)) ≡ true
      → Cored (length names) places (node_core names (map-SourceStmt SourceStmt (ℕ → ℕ → Core) (core names) (bare node)) places loops)
  at_node SourceStmt-F.Nothing places loops e = record {
    first = fold-Nothing Bool (node_is_first (length names));
    count = 0;
    places = omega arith;
    are = fold-Nothing (List ℕ) places_node;
  }
  at_node SourceStmt-F.Pause places loops e = record {
    first = fold-Pause Bool (node_is_first (length names)) places;
    count = 1;
    places = refl;
    are = fold-Pause (List ℕ) places_node places;
  }
  at_node (SourceStmt-F.Emit name) places loops e = emitted name places loops (number_of names name) refl e
  at_node (SourceStmt-F.Loop body) places loops e =
      let inner = body.1 places (loops + 1) e in
      let c = core names body.0 places (loops + 1) in
      record {
        first = fold-Loop Bool (node_is_first (length names)) loops c.stmt (Lit yes) ∙ ap₂ (λ a b. a && b) inner.first literal_true;
        count = inner.count;
        places = inner.places;
        are = fold-Loop (List ℕ) places_node loops c.stmt (Lit yes) ∙ (append-nil (places_of c.stmt) ∙ inner.are);
      }
  at_node (SourceStmt-F.Block parts) places loops e =
      let all = all_parts parts places loops e in
      let c = in_order (map (core names) (bare_all parts)) places loops in
      cored_sequence (length names) places c.stmts c.places c.loops all

  cored : (s : SourceStmt) → Claim s
  cored = ind-SourceStmt Claim (λ x y is. subst (λ z. Claim (roll-SourceStmt z)) is (λ places loops e.
      subst (λ (c : ℕ → ℕ → Core). Cored (length names) places (c places loops))
      (sym (fold-roll-SourceStmt (ℕ → ℕ → Core) (node_core names) (bare y)))
      (at_node y places loops (sym (fold-roll-SourceStmt Bool (node_emits names) (bare y)) ∙ e))))

  cored_all : (parts : List SourceStmt) (places loops : ℕ) → list_all (λ emits. emits) (map (emits_among names) parts) ≡ true
      → AreCored (length names) places (in_order (map (core names) parts) places loops)
  cored_all [] places loops e = record { first = refl; count = 0; places = omega arith; are = refl }
  cored_all (part ∷ parts) places loops e =
      let both = and_parts _ _ e in
      let here = cored part places loops both.0 in
      let c = core names part places loops in
      let later = cored_all parts c.places c.loops both.1 in
      record {
        first = ap₂ (λ a b. a && b) here.first later.first;
        count = here.count + later.count;
        places = omega (arith, here.places, later.places);
        are = ap₂ (λ a b. a ++ b) here.are (later.are ∙ ap (λ from. range_with_len from later.count) here.places)
            ∙ range-append places here.count later.count;
      }

outputs_are_events : (formals : List Formal) → AreOutputs formals → list_all (λ (formal : Formal). is_event_output formal) formals ≡ true
outputs_are_events [] all = refl
outputs_are_events (formal ∷ formals) all =
    ap₂ (λ a b. a && b) (ap (λ (f : Formal). is_event_output f) all.0.is) (outputs_are_events formals all.1)

-- a source that is asked for describes a module of the first language
pub first_source : (asked : List ℕ) (source : SourceModule) → IsAsked asked source → AreOutputs source.formals → IsFirst (core_module source)
first_source asked source is outputs =
    let c = cores (formal_names source.formals) source.body 0 0 in
    let all = cored_all (formal_names source.formals) source.body 0 0 is.emits in
    let one = cored_sequence (length (formal_names source.formals)) 0 c.stmts c.places c.loops all in
    let count : one.count ≡ c.places = omega (arith, one.places) in
    record {
      formals = outputs_are_events source.formals outputs;
      names = is.differ;
      body = subst (λ n. is_first n (sequence c.stmts) ≡ true) (length-map source.formals (λ (formal : Formal). formal.name)) one.first;
      places = one.are ∙ ap (λ n. range_with_len 0 n) (count ∙ sym (length-replicate c.places None));
    }

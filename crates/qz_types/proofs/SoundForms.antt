-- Each way of making keeps soundness: what is made of sound parts is sound.
use Rattle.std.proofs.Common.{◌≡◌, ℕ, suc, ◌^◌, Bool, true, false, ◌&&◌, nat_le, nat_lt, length, map, List, [], ◌∷◌, ◌++◌, Option, Some, None, refl, sym, ap, subst, ◌∙◌, append-nil, append_assoc, arith, if◌then◌else◌}
use Rattle.std.specs.List.{flat_map, list_all, range_with_len}
use Rattle.std.proofs.lemmas.List.{length-map}
use Rattle.std.proofs.lemmas.Bool.Decides.{nat_tests}
use Rattle.qz_values.specs.declared.Ty.{Ty}
use Rattle.qz_values.specs.Values.{yes}
use Rattle.qz_syntax.specs.declared.declarations.Decl.{Decl}
use Rattle.qz_syntax.specs.declared.expressions.Var.{Var}
use Rattle.qz_syntax.specs.declared.names.Name.{Name}
use Rattle.qz_syntax.specs.declared.statements.Kind.{Kind}
use Rattle.qz_syntax.specs.declared.statements.Stmt.{Stmt}
use Rattle.qz_syntax.specs.declared.statements.Stmt.TheVariants as core
use Rattle.qz_syntax.specs.declared.files.FileDecl.{FileDecl}
use Rattle.qz_syntax.specs.declared.files.FileFormal.{FileFormal}
use Rattle.qz_syntax.specs.declared.files.FileProto.{FileProto}
use Rattle.qz_syntax.specs.Typing.{Declared, Sight, node_type, read_type, is_condition}
use Rattle.qz_syntax.specs.Sound.{type_at, has_members, is_hold_of, in_scope as inside_scope, node_is_sound, is_sound}
use Rattle.qz_syntax.proofs.Equations.{fold-Lit, fold-Nothing, fold-Pause, fold-Seq, fold-Par, fold-If, fold-Loop, fold-Abort, fold-Suspend, fold-Scope}
use Rattle.qz_types.specs.declared.numbers.Numbers.{Numbers}
use Rattle.qz_types.specs.declared.variables.Variable.{Variable}
use Rattle.qz_types.specs.Meanings.{Meanings}
use Rattle.qz_types.specs.WrittenTypes.{type_faults}
use Rattle.qz_types.specs.Declarations.{declared, local_variables}
use Rattle.qz_types.specs.CoreDeclarations.{core_formal, core_proto, local_names, local_numbers, core_decls}
use Rattle.qz_types.specs.Makers.{Made, Maker, Valued, AllMade, always, with_place, with_loop, with_locals, hold_place, with_hold_place, pausing, repeating, branching, aborting, suspending, all_made, listed, in_sequence, in_parallel}
use Rattle.qz_types.specs.CoreStatements.{in_scope, scoped, doing_nothing}
use Rattle.qz_types.specs.ShortLists.{is_short}
use Rattle.qz_types.proofs.MadeInduction.{Each, as_many_locals}
use Rattle.qz_types.proofs.Faultless.{both_true}
use Rattle.qz_types.proofs.Alike.{Alike, alike_declared, alike_inside}
use Rattle.qz_types.proofs.DeclaredAlike.{Entries, entries, InSight, in_sight, locals_parallel}

-- a condition, wherever names stand for these variables
abbrev pub Holds : Meanings Variable → Valued → Type 0
Holds file e = (d : Declared) (sight : Sight) (names : Meanings Var) → Alike d sight file names → is_condition (type_at d sight (e names)) ≡ true

pub always_holds : (file : Meanings Variable) → Holds file always
always_holds file d sight names alike = ap is_condition (fold-Lit (Option Ty) (node_type (read_type d sight)) yes)

abbrev pub Check : Type 0
Check = Sight → Bool

members : {X : Type 0} (x y : X) (zs : List X) → is_short (x ∷ (y ∷ zs)) ≡ true → has_members (x ∷ (y ∷ zs)) ≡ true
members x y zs e =
    let two : nat_le 2 (length (x ∷ (y ∷ zs))) ≡ true = grind (arith, nat_tests) in
    both_true (nat_le 2 (length (x ∷ (y ∷ zs)))) (is_short (x ∷ (y ∷ zs))) two e

as_many_trees : (makers : List Maker) (names : Meanings Var) (n : Numbers) → length (all_made makers names n).trees ≡ length makers
as_many_trees [] names n = refl
as_many_trees (maker ∷ makers) names n = ap suc (as_many_trees makers names (maker names n).next)

held : (kind : Kind) (place : ℕ) (b : Bool) → kind.immediate ≡ b → is_hold_of kind (if b then Some place else None) ≡ true
held kind place true e = e
held kind place false e = ap (λ (b : Bool). if b then false else true) e

hold_keeps : (immediate : Bool) (n : Numbers) → (if immediate then with_place n None else n).decls ≡ n.decls
hold_keeps true n = refl
hold_keeps false n = refl

module _ (protos : List FileProto) (formals : List FileFormal) where
  -- what numbers stand for where these are the locals
  abbrev pub given : List Decl → Declared
  given all = record { protos = map core_proto protos; formals = map core_formal formals; decls = all }

  abbrev pub SoundAt : Meanings Variable → Meanings Var → Stmt → List Decl → Sight → Type 0
  SoundAt file names tree all sight = Alike (given all) sight file names → is_sound (given all) tree sight ≡ true

  -- what is made is sound wherever names stand for these variables, also where more locals are declared later
  pub record Sound (file : Meanings Variable) (names : Meanings Var) (made : Made) (n : Numbers) : Type 0 where
    pub added : List Decl
    pub next_decls : made.next.decls ≡ n.decls ++ added
    pub sound : (all later : List Decl) → all ≡ made.next.decls ++ later → (sight : Sight) → SoundAt file names made.tree all sight

  record AllSound (file : Meanings Variable) (names : Meanings Var) (made : AllMade) (n : Numbers) : Type 0 where
    added : List Decl
    next_decls : made.next.decls ≡ n.decls ++ added
    sound : (all later : List Decl) → all ≡ made.next.decls ++ later → (sight : Sight) → Alike (given all) sight file names
        → list_all (λ (part : Check). part sight) (map (is_sound (given all)) made.trees) ≡ true

  abbrev pub Sounds : Meanings Variable → Maker → Type 0
  Sounds file maker = (names : Meanings Var) (n : Numbers) → Sound file names (maker names n) n

  module _ (file : Meanings Variable) where
    pub leaf : (names : Meanings Var) (n next : Numbers) (tree : Stmt) → ((all : List Decl) (sight : Sight) → SoundAt file names tree all sight) → next.decls ≡ n.decls
        → Sound file names (record { tree = tree; next = next }) n
    leaf names n next tree e f = record {
      added = [];
      next_decls = f ∙ sym (append-nil n.decls);
      sound = λ all later is sight alike. e all sight alike;
    }

    around : (names : Meanings Var) (n inner : Numbers) (body : Made) (tree : Stmt)
        → ((all : List Decl) (sight : Sight) → is_sound (given all) body.tree sight ≡ true → SoundAt file names tree all sight) → inner.decls ≡ n.decls
        → Sound file names body inner → Sound file names (record { tree = tree; next = body.next }) n
    around names n inner body tree e f b = record {
      added = b.added;
      next_decls = b.next_decls ∙ ap (λ ds. ds ++ b.added) f;
      sound = λ all later is sight alike. e all sight (b.sound all later is sight alike) alike;
    }

    -- where these locals are all after a second part, they are all after the first one, with more later
    after_first : (a b more later all : List Decl) → b ≡ a ++ more → all ≡ b ++ later → all ≡ a ++ (more ++ later)
    after_first a b more later all e f = f ∙ ap (λ ds. ds ++ later) e ∙ append_assoc a more later

    two_parts : (names : Meanings Var) (n : Numbers) (a b : Made) (tree : Stmt)
        → ((all : List Decl) (sight : Sight) → is_sound (given all) a.tree sight ≡ true → is_sound (given all) b.tree sight ≡ true → SoundAt file names tree all sight)
        → Sound file names a n → Sound file names b a.next → Sound file names (record { tree = tree; next = b.next }) n
    two_parts names n a b tree e x y = record {
      added = x.added ++ y.added;
      next_decls = y.next_decls ∙ ap (λ ds. ds ++ y.added) x.next_decls ∙ append_assoc n.decls x.added y.added;
      sound = λ all later is sight alike.
          e all sight (x.sound all (y.added ++ later) (after_first a.next.decls b.next.decls y.added later all y.next_decls is) sight alike) (y.sound all later is sight alike) alike;
    }

    all_sound : (makers : List Maker) → Each (Sounds file) makers → (names : Meanings Var) (n : Numbers) → AllSound file names (all_made makers names n) n
    all_sound [] each names n = record { added = []; next_decls = sym (append-nil n.decls); sound = λ all later is sight alike. refl }
    all_sound (maker ∷ makers) each names n =
        let a = maker names n in
        let b = all_made makers names a.next in
        let x = each.0 names n in
        let y = all_sound makers each.1 names a.next in
        record {
          added = x.added ++ y.added;
          next_decls = y.next_decls ∙ ap (λ ds. ds ++ y.added) x.next_decls ∙ append_assoc n.decls x.added y.added;
          sound = λ all later is sight alike.
              both_true (is_sound (given all) a.tree sight) (list_all (λ (part : Check). part sight) (map (is_sound (given all)) b.trees))
              (x.sound all (y.added ++ later) (after_first a.next.decls b.next.decls y.added later all y.next_decls is) sight alike) (y.sound all later is sight alike);
        }

    only_one : (b : Bool) → (b && true) ≡ true → b ≡ true
    only_one true e = refl
    only_one false e = e

    listed_sound : (d : Declared) (sight : Sight) (together : List Stmt → Stmt)
        → ((parts : List Stmt) → is_sound d (together parts) sight ≡ (has_members (map (is_sound d) parts) && list_all (λ (part : Check). part sight) (map (is_sound d) parts)))
        → (trees : List Stmt) → is_short trees ≡ true → list_all (λ (part : Check). part sight) (map (is_sound d) trees) ≡ true → is_sound d (listed together trees) sight ≡ true
    listed_sound d sight together h [] short e = ap (λ (k : Check). k sight) (fold-Nothing Check (node_is_sound d))
    listed_sound d sight together h (only ∷ []) short e = only_one (is_sound d only sight) e
    listed_sound d sight together h (first ∷ (second ∷ others)) short e =
        let parts = first ∷ (second ∷ others) in
        let mapped : is_short (map (is_sound d) parts) ≡ true = ap (λ k. nat_lt k (2 ^ 32)) (length-map parts (is_sound d)) ∙ short in
        h parts ∙ both_true (has_members (map (is_sound d) parts)) (list_all (λ (part : Check). part sight) (map (is_sound d) parts))
        (members (is_sound d first) (is_sound d second) (map (is_sound d) others) mapped) e

    from_all : (names : Meanings Var) (n : Numbers) (together : List Stmt → Stmt) (parts : AllMade)
        → ((all : List Decl) (sight : Sight) (trees : List Stmt) → is_sound (given all) (together trees) sight
        ≡ (has_members (map (is_sound (given all)) trees) && list_all (λ (part : Check). part sight) (map (is_sound (given all)) trees)))
        → is_short parts.trees ≡ true → AllSound file names parts n → Sound file names (record { tree = listed together parts.trees; next = parts.next }) n
    from_all names n together parts h short x = record {
      added = x.added;
      next_decls = x.next_decls;
      sound = λ all later is sight alike. listed_sound (given all) sight together (h all sight) parts.trees short (x.sound all later is sight alike);
    }

    pub sound_nothing : Sounds file doing_nothing
    sound_nothing names n = leaf names n n core.Nothing (λ all sight alike. ap (λ (k : Check). k sight) (fold-Nothing Check (node_is_sound (given all)))) refl

    pub sound_pausing : (label : Option Name) → Sounds file (pausing label)
    sound_pausing label names n =
        leaf names n (with_place n label) (core.Pause (length n.labels)) (λ all sight alike. ap (λ (k : Check). k sight) (fold-Pause Check (node_is_sound (given all)) (length n.labels))) refl

    pub sound_repeating : (body : Maker) (e : Valued) → Holds file e → Sounds file body → Sounds file (repeating body e)
    sound_repeating body e holds b names n =
        let made = body names (with_loop n) in
        around names n (with_loop n) made (core.Loop n.loops made.tree (e names)) (λ all sight inner alike.
        ap (λ (k : Check). k sight) (fold-Loop Check (node_is_sound (given all)) n.loops made.tree (e names))
        ∙ both_true (is_condition (type_at (given all) sight (e names))) (is_sound (given all) made.tree sight) (holds (given all) sight names alike) inner) refl (b names (with_loop n))

    pub sound_branching : (e : Valued) (first second : Maker) → Holds file e → Sounds file first → Sounds file second → Sounds file (branching e first second)
    sound_branching e first second holds f g names n =
        let a = first names n in
        let b = second names a.next in
        two_parts names n a b (core.If (e names) a.tree b.tree) (λ all sight x y alike.
        ap (λ (k : Check). k sight) (fold-If Check (node_is_sound (given all)) (e names) a.tree b.tree)
        ∙ both_true (is_condition (type_at (given all) sight (e names))) (is_sound (given all) a.tree sight && is_sound (given all) b.tree sight) (holds (given all) sight names alike)
        (both_true (is_sound (given all) a.tree sight) (is_sound (given all) b.tree sight) x y)) (f names n) (g names a.next)

    pub sound_aborting : (kind : Kind) (body : Maker) (e : Valued) → Holds file e → Sounds file body → Sounds file (aborting kind body e)
    sound_aborting kind body e holds b names n =
        let made = body names n in
        around names n n made (core.Abort kind made.tree (e names)) (λ all sight inner alike.
        ap (λ (k : Check). k sight) (fold-Abort Check (node_is_sound (given all)) kind made.tree (e names))
        ∙ both_true (is_condition (type_at (given all) sight (e names))) (is_sound (given all) made.tree sight) (holds (given all) sight names alike) inner) refl (b names n)

    pub sound_suspending : (kind : Kind) (body : Maker) (e : Valued) → Holds file e → Sounds file body → Sounds file (suspending kind body e)
    sound_suspending kind body e holds b names n =
        let made = body names (with_hold_place kind n) in
        around names n (with_hold_place kind n) made (core.Suspend kind (hold_place kind n) made.tree (e names)) (λ all sight inner alike.
        let condition = is_condition (type_at (given all) sight (e names)) in
        ap (λ (k : Check). k sight) (fold-Suspend Check (node_is_sound (given all)) kind (hold_place kind n) made.tree (e names))
        ∙ both_true (is_hold_of kind (hold_place kind n)) (condition && is_sound (given all) made.tree sight) (held kind (length n.labels) kind.immediate refl)
        (both_true condition (is_sound (given all) made.tree sight) (holds (given all) sight names alike) inner)) (hold_keeps kind.immediate n) (b names (with_hold_place kind n))

    pub sound_sequence : (makers : List Maker) → is_short makers ≡ true → Each (Sounds file) makers → Sounds file (in_sequence makers)
    sound_sequence makers short each names n =
        from_all names n core.Seq (all_made makers names n) (λ all sight trees. ap (λ (k : Check). k sight) (fold-Seq Check (node_is_sound (given all)) trees))
        (ap (λ k. nat_lt k (2 ^ 32)) (as_many_trees makers names n) ∙ short) (all_sound makers each names n)

    pub sound_parallel : (makers : List Maker) → is_short makers ≡ true → Each (Sounds file) makers → Sounds file (in_parallel makers)
    sound_parallel makers short each names n =
        from_all names n core.Par (all_made makers names n) (λ all sight trees. ap (λ (k : Check). k sight) (fold-Par Check (node_is_sound (given all)) trees))
        (ap (λ k. nat_lt k (2 ^ 32)) (as_many_trees makers names n) ∙ short) (all_sound makers each names n)

  scoped_sound : (d : Declared) (sight : Sight) (locals : List ℕ) (body : Stmt) → is_sound d body (inside_scope sight locals) ≡ true → is_sound d (scoped locals body) sight ≡ true
  scoped_sound d sight [] body e = e
  scoped_sound d sight (local ∷ locals) body e =
      let some : nat_le 1 (length (local ∷ locals)) ≡ true = grind (arith, nat_tests) in
      ap (λ (k : Check). k sight) (fold-Scope Check (node_is_sound d) (local ∷ locals) body)
      ∙ both_true (nat_le 1 (length (local ∷ locals))) (is_sound d body (inside_scope sight (local ∷ locals))) some e

  -- a block's locals, of which all widths are in range
  pub sound_scope : (file : Meanings Variable) (decls : List FileDecl) (body : Maker) → flat_map (λ (decl : FileDecl). type_faults decl.ty) decls ≡ []
      → Sounds (declared (local_variables decls) file) body → Sounds file (in_scope (local_names decls) (core_decls decls) body)
  sound_scope file decls body widths b names n =
      let first = length n.decls in
      let numbered = local_numbers first (local_names decls) in
      let locals = range_with_len first (length (local_names decls)) in
      let inner = body (declared numbered names) (with_locals n (core_decls decls)) in
      let x = b (declared numbered names) (with_locals n (core_decls decls)) in
      record {
        added = core_decls decls ++ x.added;
        next_decls = x.next_decls ∙ append_assoc n.decls (core_decls decls) x.added;
        sound = λ all later is sight alike.
            let d = given all in
            let within = inside_scope sight locals in
            let whole : all ≡ n.decls ++ (core_decls decls ++ (x.added ++ later)) =
            is ∙ ap (λ xs. xs ++ later) (x.next_decls ∙ append_assoc n.decls (core_decls decls) x.added)
            ∙ append_assoc n.decls (core_decls decls ++ x.added) later ∙ ap (λ xs. n.decls ++ xs) (append_assoc (core_decls decls) x.added later) in
            let found : Entries all first (core_decls decls) =
            subst (λ (ds : List Decl). Entries ds first (core_decls decls)) (sym whole) (entries n.decls (core_decls decls) (x.added ++ later)) in
            let seen : InSight (locals ++ sight.locals) first (core_decls decls) =
            subst (λ k. InSight (range_with_len first k ++ sight.locals) first (core_decls decls)) (as_many_locals decls) (in_sight first (core_decls decls) sight.locals) in
            let inside = alike_declared d within (local_variables decls) numbered file names (locals_parallel d within first decls widths found seen)
            (alike_inside d sight locals file names alike) in
            scoped_sound d sight locals inner.tree (x.sound all later is within inside);
      }

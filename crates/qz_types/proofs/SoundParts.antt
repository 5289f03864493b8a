-- Conditions, assignments and calls against which nothing is said are sound in the core tree.
use Rattle.std.proofs.Common.{◌≡◌, ℕ, zero, suc, ◌==◌, Bool, true, false, List, [], ◌∷◌, ◌++◌, length, map, Option, Some, None, refl, sym, ap, ap₂, subst, ◌∙◌, arith, if◌then◌else◌, unwrap_or}
use Rattle.std.specs.List.{flat_map, slice_get}
use Rattle.std.specs.Option.{option_map, option_and_then, option_map_or}
use Rattle.std.proofs.lemmas.Option.{slice_get-map}
use Rattle.std.proofs.lemmas.Bool.Decides.{nat_tests}
use Rattle.qz_values.specs.declared.Ty.{Ty}
use Rattle.qz_values.specs.declared.Ty.TheVariants.{Bool as Truth, Bv}
use Rattle.qz_values.specs.declared.Op1.TheVariants as op
use Rattle.qz_values.specs.Types.{is_bool, is_same_type}
use Rattle.qz_values.specs.Values.{yes}
use Rattle.qz_values.specs.Tables.{type1_of}
use Rattle.qz_syntax.specs.declared.declarations.Class.{Class}
use Rattle.qz_syntax.specs.declared.declarations.Dir.{Dir}
use Rattle.qz_syntax.specs.declared.declarations.Dir.TheVariants as dir
use Rattle.qz_syntax.specs.declared.declarations.Formal.{Formal}
use Rattle.qz_syntax.specs.declared.declarations.Proto.{Proto}
use Rattle.qz_syntax.specs.declared.expressions.Var.{Var}
use Rattle.qz_syntax.specs.declared.expressions.Var.TheVariants as var
use Rattle.qz_syntax.specs.declared.expressions.Expr.TheVariants as expr
use Rattle.qz_syntax.specs.declared.file_expressions.NameAt.{NameAt}
use Rattle.qz_syntax.specs.declared.file_expressions.FileExpr.{FileExpr, map-FileExpr, out-FileExpr}
use Rattle.qz_syntax.specs.declared.file_expressions.FileExpr.TheOpen.{FileExpr-F}
use Rattle.qz_syntax.specs.declared.file_expressions.FileExpr.TheFolds.{fold_out-FileExpr}
use Rattle.qz_syntax.specs.declared.file_statements.Cond.{Cond}
use Rattle.qz_syntax.specs.declared.file_statements.Target.{Target}
use Rattle.qz_syntax.specs.declared.files.FileFormal.{FileFormal}
use Rattle.qz_syntax.specs.declared.files.FileProto.{FileProto}
use Rattle.qz_syntax.specs.Typing.{Declared, Sight, Target as Written, node_type, read_type, written_as, is_same_class, agree, is_condition}
use Rattle.qz_syntax.specs.Sound.{type_at, is_assignment, is_output_for, fits_formal, fit_formals, is_call}
use Rattle.qz_syntax.proofs.Equations.{fold-Lit, fold-Un}
use Rattle.qz_types.specs.declared.faults.Fault.{Fault}
use Rattle.qz_types.specs.declared.faults.TypeKind.TheVariants.{TypeDiffers, WriteToInput, NotWritable, ArgCount, ArgClass}
use Rattle.qz_types.specs.declared.variables.Variable.{Variable}
use Rattle.qz_types.specs.Faults.{fault_at, unless}
use Rattle.qz_types.specs.Meanings.{Meanings, no_meanings}
use Rattle.qz_types.specs.WrittenTypes.{type_of_text, type_faults, where_typed, where_both}
use Rattle.qz_types.specs.Declarations.{double_names, formal_variables, formal_faults, too_many}
use Rattle.qz_types.specs.ExpressionTypes.{Told, told, node_told, variable_told, first_token}
use Rattle.qz_types.specs.ArgumentFaults.{is_writable, output_name_faults, output_faults, direction_faults, argument_faults, matched_faults, own_faults, call_faults, formals_of}
use Rattle.qz_types.specs.StatementFaults.{condition_faults, type_named, written_faults, assignment_faults, emission_faults}
use Rattle.qz_types.specs.CoreDeclarations.{core_formal, core_proto}
use Rattle.qz_types.specs.CoreExpressions.{core_expression, core_type, core_variable}
use Rattle.qz_types.specs.CoreStatements.{holds, fails, output_variable, core_argument, core_arguments}
use Rattle.qz_types.proofs.Faultless.{first_nil, second_nil, test_holds, both_true}
use Rattle.qz_types.proofs.Alike.{Alike, StandsIf, text_named}
use Rattle.qz_types.proofs.TypedExpressions.{at_type, at_both, expression_typed}

negated : (o : Option Ty) → is_condition o ≡ true → is_condition (option_and_then (λ s. type1_of op.Not s) o) ≡ true
negated None e = cc
negated (Some Truth) e = refl
negated (Some (Bv w)) e = cc

same_as_truth : (t : Ty) → is_bool t ≡ true → is_same_type t Truth ≡ true
same_as_truth Truth e = refl
same_as_truth (Bv w) e = cc

some_same : {X : Type 0} (x y : X) → Some x ≡ Some y → x ≡ y
some_same x y e = ap (λ o. unwrap_or o x) e

-- where a list of lists is empty, so is each
flat_nil_at : {X Y : Type 0} (f : X → List Y) (xs : List X) (k : ℕ) (x : X) → flat_map f xs ≡ [] → slice_get xs k ≡ Some x → f x ≡ []
flat_nil_at f [] k x e found = cc
flat_nil_at f (y ∷ xs) zero x e found = let same : y ≡ x = some_same y x found in subst (λ z. f z ≡ []) same (first_nil (f y) (flat_map f xs) e)
flat_nil_at f (y ∷ xs) (suc k) x e found = flat_nil_at f xs k x (second_nil (f y) (flat_map f xs) e) found

module _ (d : Declared) (sight : Sight) (file : Meanings Variable) (names : Meanings Var) (alike : Alike d sight file names) where
  pub condition_sound : (c : Cond) → condition_faults file c ≡ [] → is_condition (type_at d sight (holds c names)) ≡ true
  condition_sound c e =
      let own = (told file c.expr).faults in
      let check : Ty → List Fault = λ t. unless (is_bool t) TypeDiffers c.at in
      let last = where_typed (told file c.expr).ty check in
      let a = expression_typed d sight file names alike c.expr (first_nil own last e) in
      ap is_condition a.typed ∙ test_holds (is_bool a.ty) TypeDiffers c.at (at_type (told file c.expr).ty a.ty check a.is_told (second_nil own last e))

  pub failing_sound : (c : Cond) → condition_faults file c ≡ [] → is_condition (type_at d sight (fails c names)) ≡ true
  failing_sound c e =
      ap is_condition (fold-Un (Option Ty) (node_type (read_type d sight)) op.Not (holds c names))
      ∙ negated (type_at d sight (holds c names)) (condition_sound c e)

  -- a name that is written, and the type that it has
  record WrittenTo (known : Option Variable) (variable : Var) : Type 0 where
    class : Class
    ty : Ty
    named : type_named known ≡ Some ty
    written : written_as d sight variable ≡ Some (record { class = class; ty = ty })

  written_to : (at : ℕ) (known : Option Variable) (found : Option Var) → StandsIf d sight known found → written_faults known at ≡ []
      → WrittenTo known (unwrap_or found (var.Formal 0))
  written_to at None found s e = cc
  written_to at (Some known) None s e = absurd s
  written_to at (Some known) (Some variable) s e = record {
    class = known.class;
    ty = s.ty;
    named = s.has_type;
    written = s.written (test_holds (is_writable known.dir) WriteToInput at e);
  }

  pub assignment_sound : (target : Target) (equals : ℕ) (value : FileExpr) → assignment_faults file target equals value ≡ []
      → is_assignment d sight (core_variable names target.name.name) (core_expression names value) ≡ true
  assignment_sound target equals value e =
      let known = file target.name.name in
      let check : Ty → Ty → List Fault = λ s t. unless (is_same_type s t) TypeDiffers equals in
      let written = written_faults known target.name.at in
      let last = where_both (type_named known) (told file value).ty check in
      let rest = second_nil written ((told file value).faults ++ last) e in
      let w = written_to target.name.at known (names target.name.name) (alike.stands target.name.name) (first_nil written ((told file value).faults ++ last) e) in
      let a = expression_typed d sight file names alike value (first_nil (told file value).faults last rest) in
      ap₂ (λ o p. agree (option_map (λ (target : Written). target.ty) o) p) w.written a.typed
      ∙ test_holds (is_same_type w.ty a.ty) TypeDiffers equals (at_both (type_named known) (told file value).ty w.ty a.ty check w.named a.is_told (second_nil (told file value).faults last rest))

  pub emission_sound : (target : Target) → emission_faults file target ≡ [] → is_assignment d sight (core_variable names target.name.name) (expr.Lit yes) ≡ true
  emission_sound target e =
      let known = file target.name.name in
      let check : Ty → List Fault = λ t. unless (is_bool t) TypeDiffers target.name.at in
      let written = written_faults known target.name.at in
      let last = where_typed (type_named known) check in
      let w = written_to target.name.at known (names target.name.name) (alike.stands target.name.name) (first_nil written last e) in
      ap₂ (λ o p. agree (option_map (λ (target : Written). target.ty) o) p) w.written (fold-Lit (Option Ty) (node_type (read_type d sight)) yes)
      ∙ same_as_truth w.ty (test_holds (is_bool w.ty) TypeDiffers target.name.at (at_type (type_named known) w.ty check w.named (second_nil written last e)))

  -- an output's argument, by what its name stands for
  output_stands : (formal : Formal) (at : ℕ) (own : Option Ty) (known : Option Variable) (found : Option Var) → StandsIf d sight known found
      → own ≡ (variable_told known at).ty → ((s : Ty) → own ≡ Some s → is_same_type s formal.ty ≡ true) → output_name_faults formal.class at known ≡ [] → (variable_told known at).faults ≡ []
      → is_output_for formal (written_as d sight (unwrap_or found (var.Formal 0))) ≡ true
  output_stands formal at own None found s is same e f = cc
  output_stands formal at own (Some known) None s is same e f = absurd s
  output_stands formal at own (Some known) (Some variable) s is same e f =
      let writable = unless (is_writable known.dir) NotWritable at in
      let kind = unless (is_same_class known.class formal.class) ArgClass at in
      let w = s.written (test_holds (is_writable known.dir) NotWritable at (first_nil writable kind e)) in
      ap (is_output_for formal) w
      ∙ both_true (is_same_class known.class formal.class) (is_same_type s.ty formal.ty)
      (test_holds (is_same_class known.class formal.class) ArgClass at (second_nil writable kind e)) (same s.ty (is ∙ s.has_type))

  -- an output's argument, by its form
  output_fits : (formal : Formal) (at : ℕ) (node : FileExpr-F FileExpr) (t : Told) → t ≡ node_told file (map-FileExpr FileExpr Told (told file) node)
      → ((s : Ty) → t.ty ≡ Some s → is_same_type s formal.ty ≡ true) → t.faults ≡ [] → output_faults file formal.class at node ≡ []
      → is_output_for formal (written_as d sight (output_variable names node)) ≡ true
  output_fits formal at (FileExpr-F.Name name) t is same f e =
      output_stands formal at t.ty (file name.name) (names name.name) (alike.stands name.name) (ap (λ (x : Told). x.ty) is ∙ told_at (file name.name)) same e
      (told_faults (file name.name) (sym (ap (λ (x : Told). x.faults) is) ∙ f))
    where
      told_at : (known : Option Variable) → (variable_told known name.at).ty ≡ (variable_told known at).ty
      told_at None = refl
      told_at (Some known) = refl

      told_faults : (known : Option Variable) → (variable_told known name.at).faults ≡ [] → (variable_told known at).faults ≡ []
      told_faults None g = cc
      told_faults (Some known) g = refl
  output_fits formal at other t is same f e = cc

  -- an argument by its formal's direction
  direction_fits : (formal : FileFormal) (direction : Dir) (argument : FileExpr) → type_faults formal.ty ≡ [] → (told file argument).faults ≡ []
      → where_both (told file argument).ty (type_of_text formal.ty) (λ s t. unless (is_same_type s t) TypeDiffers (first_token argument)) ≡ []
      → direction_faults file direction formal.class argument ≡ []
      → fits_formal d sight (core_argument names direction argument) (record { class = formal.class; dir = direction; ty = core_type formal.ty; name = formal.name.name }) ≡ true
  direction_fits formal dir.In argument typed own types e =
      let check : Ty → Ty → List Fault = λ s t. unless (is_same_type s t) TypeDiffers (first_token argument) in
      let a = expression_typed d sight file names alike argument own in
      ap (λ o. agree o (Some (core_type formal.ty))) a.typed
      ∙ test_holds (is_same_type a.ty (core_type formal.ty)) TypeDiffers (first_token argument)
      (at_both (told file argument).ty (type_of_text formal.ty) a.ty (core_type formal.ty) check a.is_told (text_named formal.ty typed) types)
  direction_fits formal dir.Out argument typed own types e =
      let check : Ty → Ty → List Fault = λ s t. unless (is_same_type s t) TypeDiffers (first_token argument) in
      output_fits (record { class = formal.class; dir = dir.Out; ty = core_type formal.ty; name = formal.name.name }) (first_token argument) (out-FileExpr argument)
      (told file argument) (fold_out-FileExpr Told (node_told file) argument)
      (λ s is. test_holds (is_same_type s (core_type formal.ty)) TypeDiffers (first_token argument)
      (at_both (told file argument).ty (type_of_text formal.ty) s (core_type formal.ty) check is (text_named formal.ty typed) types)) own e

  argument_fits : (formal : FileFormal) (argument : FileExpr) → type_faults formal.ty ≡ [] → argument_faults file formal argument ≡ []
      → fits_formal d sight (core_argument names formal.dir argument) (core_formal formal) ≡ true
  argument_fits formal argument typed e =
      let own = (told file argument).faults in
      let types = where_both (told file argument).ty (type_of_text formal.ty) (λ s t. unless (is_same_type s t) TypeDiffers (first_token argument)) in
      let directed = direction_faults file formal.dir formal.class argument in
      let rest = second_nil own (types ++ directed) e in
      direction_fits formal formal.dir argument typed (first_nil own (types ++ directed) e) (first_nil types directed rest) (second_nil types directed rest)

  arguments_fit : (formals : List FileFormal) (arguments : List FileExpr) → flat_map (λ (formal : FileFormal). type_faults formal.ty) formals ≡ []
      → length arguments ≡ length formals → matched_faults file formals arguments ≡ []
      → fit_formals d sight (core_arguments names formals arguments) (map core_formal formals) ≡ true
  arguments_fit [] [] typed many e = refl
  arguments_fit (formal ∷ formals) [] typed many e = let no : length {A = FileExpr} [] ≡ suc (length formals) = many in absurd (omega (arith, no))
  arguments_fit [] (argument ∷ arguments) typed many e = let no : suc (length arguments) ≡ length {A = FileFormal} [] = many in absurd (omega (arith, no))
  arguments_fit (formal ∷ formals) (argument ∷ arguments) typed many e =
      let rest = flat_map (λ (formal : FileFormal). type_faults formal.ty) formals in
      let same : suc (length arguments) ≡ suc (length formals) = many in
      both_true (fits_formal d sight (core_argument names formal.dir argument) (core_formal formal)) (fit_formals d sight (core_arguments names formals arguments) (map core_formal formals))
      (argument_fits formal argument (first_nil (type_faults formal.ty) rest typed) (first_nil (argument_faults file formal argument) (matched_faults file formals arguments) e))
      (arguments_fit formals arguments (second_nil (type_faults formal.ty) rest typed) (omega (arith, same)) (second_nil (argument_faults file formal argument) (matched_faults file formals arguments) e))

  -- a call of a module of which there are these formals
  matched_call : (at : ℕ) (formals : List FileFormal) (arguments : List FileExpr) (b : Bool) → (length arguments == length formals) ≡ b
      → flat_map (λ (formal : FileFormal). type_faults formal.ty) formals ≡ []
      → (if b then matched_faults file formals arguments else fault_at ArgCount at ∷ own_faults file arguments) ≡ []
      → fit_formals d sight (core_arguments names formals arguments) (map core_formal formals) ≡ true
  matched_call at formals arguments false is typed e = cc
  matched_call at formals arguments true is typed e =
      let many : length arguments ≡ length formals = grind (arith, nat_tests) in
      arguments_fit formals arguments typed many e

  module _ (protos : List FileProto) (given : d.protos ≡ map core_proto protos) (good : flat_map (λ (proto : FileProto). formal_faults proto.formals) protos ≡ []) where
    call_found : (at k : ℕ) (arguments : List FileExpr) (found : Option FileProto) → slice_get protos k ≡ found
        → call_faults file at arguments (option_map (λ (proto : FileProto). proto.formals) found) ≡ []
        → is_call d sight k (core_arguments names (unwrap_or (option_map (λ (proto : FileProto). proto.formals) found) []) arguments) ≡ true
    call_found at k arguments None is e = cc
    call_found at k arguments (Some proto) is e =
        let callee : slice_get d.protos k ≡ Some (core_proto proto) =
        ap (λ (ps : List Proto). slice_get ps k) given ∙ slice_get-map core_proto protos k ∙ ap (option_map core_proto) is in
        let widths = flat_map (λ (formal : FileFormal). type_faults formal.ty) proto.formals in
        let typed = first_nil widths (double_names (formal_variables proto.formals) no_meanings ++ too_many proto.formals)
        (flat_nil_at (λ (proto : FileProto). formal_faults proto.formals) protos k proto good is) in
        ap (λ o. option_map_or (λ (p : Proto). fit_formals d sight (core_arguments names proto.formals arguments) p.formals) o false) callee
        ∙ matched_call at proto.formals arguments (length arguments == length proto.formals) refl typed e

    call_of : (at : ℕ) (arguments : List FileExpr) (number : Option ℕ)
        → call_faults file at arguments (option_and_then (λ k. option_map (λ (proto : FileProto). proto.formals) (slice_get protos k)) number) ≡ []
        → is_call d sight (unwrap_or number 0) (core_arguments names (unwrap_or (option_and_then (λ k. option_map (λ (proto : FileProto). proto.formals) (slice_get protos k)) number) []) arguments) ≡ true
    call_of at arguments None e = cc
    call_of at arguments (Some k) e = call_found at k arguments (slice_get protos k) refl e

    pub call_sound : (callees : Meanings ℕ) (callee : NameAt) (arguments : List FileExpr) → call_faults file callee.at arguments (formals_of protos callees callee.name) ≡ []
        → is_call d sight (unwrap_or (callees callee.name) 0) (core_arguments names (unwrap_or (formals_of protos callees callee.name) []) arguments) ≡ true
    call_sound callees callee arguments e = call_of callee.at arguments (callees callee.name) e

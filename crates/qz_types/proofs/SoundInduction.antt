-- What is made of a statement is sound, where nothing is said against the statement and its lists are short.
use Rattle.std.proofs.Common.{◌≡◌, ℕ, ◌^◌, Bool, true, false, nat_lt, map, List, [], ◌∷◌, ◌++◌, Option, Some, None, refl, sym, ap, subst, ◌∙◌, if◌then◌else◌, unwrap_or}
use Rattle.std.specs.List.{flat_map, list_all}
use Rattle.std.proofs.lemmas.Bool.{and_parts}
use Rattle.std.proofs.lemmas.List.{length-map}
use Rattle.qz_values.specs.Values.{yes}
use Rattle.qz_syntax.specs.declared.expressions.Var.{Var}
use Rattle.qz_syntax.specs.declared.expressions.Expr.{Expr}
use Rattle.qz_syntax.specs.declared.expressions.Expr.TheVariants as expr
use Rattle.qz_syntax.specs.declared.statements.Stmt.TheVariants as core
use Rattle.qz_syntax.specs.declared.file_expressions.NameAt.{NameAt}
use Rattle.qz_syntax.specs.declared.file_statements.Cond.{Cond}
use Rattle.qz_syntax.specs.declared.file_statements.FileBlock.{FileBlock, map-FileBlock, roll-FileBlock}
use Rattle.qz_syntax.specs.declared.file_statements.FileStmt.{FileStmt, map-FileStmt, roll-FileStmt}
use Rattle.qz_syntax.specs.declared.file_statements.FileStmt.TheOpen.{FileStmt-F, FileBlock-F}
use Rattle.qz_syntax.specs.declared.file_statements.FileStmt.TheFolds.{fold-FileBlock, fold-roll-FileStmt, fold-roll-FileBlock, ind-FileStmt}
use Rattle.qz_syntax.specs.declared.files.FileDecl.{FileDecl}
use Rattle.qz_syntax.specs.declared.files.FileFormal.{FileFormal}
use Rattle.qz_syntax.specs.declared.files.FileProto.{FileProto}
use Rattle.qz_syntax.specs.Typing.{Declared, Sight}
use Rattle.qz_syntax.specs.Sound.{is_assignment, is_sound, node_is_sound}
use Rattle.qz_syntax.proofs.Equations.{fold-Assign, fold-Delayed, fold-Call}
use Rattle.qz_types.specs.declared.variables.Variable.{Variable}
use Rattle.qz_types.specs.Meanings.{Meanings}
use Rattle.qz_types.specs.WrittenTypes.{type_faults}
use Rattle.qz_types.specs.Declarations.{declared, double_names, local_variables, formal_faults}
use Rattle.qz_types.specs.ArgumentFaults.{formals_of}
use Rattle.qz_types.specs.StatementFaults.{Said, condition_faults, node_faults, block_faults, statement_faults}
use Rattle.qz_types.specs.CoreExpressions.{core_expression, core_variable}
use Rattle.qz_types.specs.Makers.{Maker, Valued, with_call, always, pausing, repeating, aborting, in_sequence, in_parallel}
use Rattle.qz_types.specs.CoreStatements.{holds, fails, label_name, assigned, doing_nothing, whiling, halting, awaiting, awaiting_now, strong, restarting, on_every, core_arguments, node_made, block_made, made}
use Rattle.qz_types.specs.ShortLists.{is_short, node_is_short, list_is_short, block_is_short, has_short_lists}
use Rattle.qz_types.proofs.Faultless.{first_nil, second_nil}
use Rattle.qz_types.proofs.MadeInduction.{Each}
use Rattle.qz_types.proofs.SoundParts.{condition_sound, failing_sound, assignment_sound, emission_sound, call_sound}
use Rattle.qz_types.proofs.SoundForms.{Holds, always_holds, Check, Sounds, given, leaf, sound_nothing, sound_pausing, sound_repeating, sound_branching, sound_aborting, sound_suspending, sound_sequence, sound_parallel, sound_scope}

assigned_sound : (d : Declared) (sight : Sight) (next : Bool) (v : Var) (e : Expr) → is_assignment d sight v e ≡ true
    → is_sound d (if next then core.Delayed v e else core.Assign v e) sight ≡ true
assigned_sound d sight true v e h = ap (λ (k : Check). k sight) (fold-Delayed Check (node_is_sound d) v e) ∙ h
assigned_sound d sight false v e h = ap (λ (k : Check). k sight) (fold-Assign Check (node_is_sound d) v e) ∙ h

holding : (file : Meanings Variable) (c : Cond) → condition_faults file c ≡ [] → Holds file (holds c)
holding file c e d sight names alike = condition_sound d sight file names alike c e

failing : (file : Meanings Variable) (c : Cond) → condition_faults file c ≡ [] → Holds file (fails c)
failing file c e d sight names alike = failing_sound d sight file names alike c e

-- the derived forms
module _ (protos : List FileProto) (formals : List FileFormal) (file : Meanings Variable) where
  abbrev S : Maker → Type 0
  S = Sounds protos formals file

  sound_halting : (label : Option NameAt) → S (halting label)
  sound_halting label = sound_repeating protos formals file (pausing (label_name label)) always (always_holds file) (sound_pausing protos formals file (label_name label))

  sound_awaiting : (label : Option NameAt) (c : Cond) → condition_faults file c ≡ [] → S (awaiting label c)
  sound_awaiting label c e = sound_repeating protos formals file (pausing (label_name label)) (fails c) (failing file c e) (sound_pausing protos formals file (label_name label))

  sound_whiling : (v : Valued) (body : Maker) → Holds file v → S body → S (whiling v body)
  sound_whiling v body h b =
      sound_branching protos formals file v (repeating body v) doing_nothing h (sound_repeating protos formals file body v h b) (sound_nothing protos formals file)

  sound_await : (immediate : Bool) (label : Option NameAt) (c : Cond) → condition_faults file c ≡ [] → S (if immediate then awaiting_now label c else awaiting label c)
  sound_await true label c e = sound_whiling (fails c) (pausing (label_name label)) (failing file c e) (sound_pausing protos formals file (label_name label))
  sound_await false label c e = sound_awaiting label c e

  sound_restarting : (c : Cond) (body : Maker) → condition_faults file c ≡ [] → S body → S (restarting c body)
  sound_restarting c body e b =
      let pair = body ∷ (halting None ∷ []) in
      sound_repeating protos formals file (aborting strong (in_sequence pair) (holds c)) always (always_holds file)
      (sound_aborting protos formals file strong (in_sequence pair) (holds c) (holding file c e) (sound_sequence protos formals file pair refl (b, (sound_halting None, tt))))

  sound_every : (c : Cond) (body : Maker) → condition_faults file c ≡ [] → S body → S (on_every c body)
  sound_every c body e b =
      sound_sequence protos formals file (awaiting None c ∷ (restarting c body ∷ [])) refl (sound_awaiting None c e, (sound_restarting c body e b, tt))

module _ (protos : List FileProto) (callees : Meanings ℕ) (formals : List FileFormal)
    (good : flat_map (λ (proto : FileProto). formal_faults proto.formals) protos ≡ []) where
  abbrev makes : FileStmt → Maker
  makes = made protos callees

  abbrev makes_block : FileBlock → Maker
  makes_block = fold-FileBlock Maker Maker (node_made protos callees) block_made

  abbrev said : FileStmt → Said
  said = statement_faults protos callees

  abbrev said_block : FileBlock → Said
  said_block = fold-FileBlock Said Said (node_faults protos callees) block_faults

  abbrev short_block : FileBlock → Bool
  short_block = fold-FileBlock Bool Bool node_is_short block_is_short

  -- where nothing is said and lists are short, what is made is sound
  pub record Claim (s : FileStmt) : Type 0 where
    pub sounds : (file : Meanings Variable) → statement_faults protos callees s file ≡ [] → has_short_lists s ≡ true → Sounds protos formals file (made protos callees s)

  record BlockClaim (b : FileBlock) : Type 0 where
    sounds : (file : Meanings Variable) → said_block b file ≡ [] → short_block b ≡ true → Sounds protos formals file (makes_block b)

  abbrev Stated : Type 0
  Stated = (s : FileStmt) × Claim s

  abbrev Blocked : Type 0
  Blocked = (b : FileBlock) × BlockClaim b

  abbrev bare : FileStmt-F Stated Blocked → FileStmt-F FileStmt FileBlock
  bare y = map-FileStmt Stated Blocked FileStmt FileBlock (λ (e : Stated). e.0) (λ (e : Blocked). e.0) y

  abbrev bare_block : FileBlock-F Stated Blocked → FileBlock-F FileStmt FileBlock
  bare_block y = map-FileBlock Stated Blocked FileStmt FileBlock (λ (e : Stated). e.0) (λ (e : Blocked). e.0) y

  sound_node : (y : FileStmt-F Stated Blocked) (file : Meanings Variable)
      → node_faults protos callees (map-FileStmt FileStmt FileBlock Said Said said said_block (bare y)) file ≡ []
      → node_is_short (map-FileStmt FileStmt FileBlock Bool Bool has_short_lists short_block (bare y)) ≡ true
      → Sounds protos formals file (node_made protos callees (map-FileStmt FileStmt FileBlock Maker Maker makes makes_block (bare y)))
  sound_node FileStmt-F.Nothing file e h = sound_nothing protos formals file
  sound_node (FileStmt-F.Pause label) file e h = sound_pausing protos formals file (label_name label)
  sound_node (FileStmt-F.Halt label) file e h = sound_halting protos formals file label
  sound_node (FileStmt-F.Await label immediate condition) file e h = sound_await protos formals file immediate label condition e
  sound_node (FileStmt-F.Assign target equals value) file e h = λ names n.
      leaf protos formals file names n n (assigned target (core_expression names value) names) (λ all sight alike.
      assigned_sound (given protos formals all) sight target.next (core_variable names target.name.name) (core_expression names value)
      (assignment_sound (given protos formals all) sight file names alike target equals value e)) refl
  sound_node (FileStmt-F.Emit target) file e h = λ names n.
      leaf protos formals file names n n (assigned target (expr.Lit yes) names) (λ all sight alike.
      assigned_sound (given protos formals all) sight target.next (core_variable names target.name.name) (expr.Lit yes)
      (emission_sound (given protos formals all) sight file names alike target e)) refl
  sound_node (FileStmt-F.Block block) file e h = block.1.sounds file e h
  sound_node (FileStmt-F.If condition first None) file e h =
      let conditions = condition_faults file condition in
      sound_branching protos formals file (holds condition) (makes first.0) doing_nothing (holding file condition (first_nil conditions (said first.0 file ++ []) e))
      (first.1.sounds file (first_nil (said first.0 file) [] (second_nil conditions (said first.0 file ++ []) e)) (and_parts (has_short_lists first.0) true h).0)
      (sound_nothing protos formals file)
  sound_node (FileStmt-F.If condition first (Some second)) file e h =
      let conditions = condition_faults file condition in
      let sides = second_nil conditions (said first.0 file ++ said second.0 file) e in
      let shorts = and_parts (has_short_lists first.0) (has_short_lists second.0) h in
      sound_branching protos formals file (holds condition) (makes first.0) (makes second.0)
      (holding file condition (first_nil conditions (said first.0 file ++ said second.0 file) e))
      (first.1.sounds file (first_nil (said first.0 file) (said second.0 file) sides) shorts.0)
      (second.1.sounds file (second_nil (said first.0 file) (said second.0 file) sides) shorts.1)
  sound_node (FileStmt-F.DoWhile body condition) file e h =
      let conditions = condition_faults file condition in
      sound_repeating protos formals file (makes body.0) (holds condition) (holding file condition (second_nil (said body.0 file) conditions e))
      (body.1.sounds file (first_nil (said body.0 file) conditions e) h)
  sound_node (FileStmt-F.While condition body) file e h =
      let conditions = condition_faults file condition in
      sound_whiling protos formals file (holds condition) (makes body.0) (holding file condition (first_nil conditions (said body.0 file) e))
      (body.1.sounds file (second_nil conditions (said body.0 file) e) h)
  sound_node (FileStmt-F.Loop body) file e h = sound_repeating protos formals file (makes body.0) always (always_holds file) (body.1.sounds file e h)
  sound_node (FileStmt-F.Every condition body) file e h =
      let conditions = condition_faults file condition in
      sound_every protos formals file condition (makes body.0) (first_nil conditions (said body.0 file) e) (body.1.sounds file (second_nil conditions (said body.0 file) e) h)
  sound_node (FileStmt-F.Abort kind body condition) file e h =
      let conditions = condition_faults file condition in
      sound_aborting protos formals file kind (makes body.0) (holds condition) (holding file condition (second_nil (said body.0 file) conditions e))
      (body.1.sounds file (first_nil (said body.0 file) conditions e) h)
  sound_node (FileStmt-F.Suspend kind body condition) file e h =
      let conditions = condition_faults file condition in
      sound_suspending protos formals file kind (makes body.0) (holds condition) (holding file condition (second_nil (said body.0 file) conditions e))
      (body.1.sounds file (first_nil (said body.0 file) conditions e) h)
  sound_node (FileStmt-F.Call callee arguments) file e h = λ names n.
      let proto = unwrap_or (callees callee.name) 0 in
      let values = core_arguments names (unwrap_or (formals_of protos callees callee.name) []) arguments in
      leaf protos formals file names n (with_call n) (core.Call n.calls proto values) (λ all sight alike.
      ap (λ (k : Check). k sight) (fold-Call Check (node_is_sound (given protos formals all)) n.calls proto values)
      ∙ call_sound (given protos formals all) sight file names alike protos refl good callees callee arguments e) refl

  sound_list : (list : List Stated) (file : Meanings Variable) → flat_map (λ (s : Said). s file) (map said (map (λ (e : Stated). e.0) list)) ≡ []
      → list_all (λ (short : Bool). short) (map has_short_lists (map (λ (e : Stated). e.0) list)) ≡ true
      → Each (Sounds protos formals file) (map makes (map (λ (e : Stated). e.0) list))
  sound_list [] file e h = tt
  sound_list (s ∷ list) file e h =
      let rest = flat_map (λ (s : Said). s file) (map said (map (λ (e : Stated). e.0) list)) in
      let shorts = and_parts (has_short_lists s.0) (list_all (λ (short : Bool). short) (map has_short_lists (map (λ (e : Stated). e.0) list))) h in
      (s.1.sounds file (first_nil (said s.0 file) rest e) shorts.0, sound_list list file (second_nil (said s.0 file) rest e) shorts.1)

  -- two maps of one list are short alike
  still_short : {X Y Z : Type 0} (f : X → Y) (g : X → Z) (xs : List X) → is_short (map f xs) ≡ true → is_short (map g xs) ≡ true
  still_short f g xs e = ap (λ k. nat_lt k (2 ^ 32)) (length-map xs g ∙ sym (length-map xs f)) ∙ e

  sound_lists : (lists : List (List Stated)) (file : Meanings Variable)
      → flat_map (λ list. flat_map (λ (s : Said). s file) list) (map (map said) (map (map (λ (e : Stated). e.0)) lists)) ≡ []
      → list_all list_is_short (map (map has_short_lists) (map (map (λ (e : Stated). e.0)) lists)) ≡ true
      → Each (Sounds protos formals file) (map in_sequence (map (map makes) (map (map (λ (e : Stated). e.0)) lists)))
  sound_lists [] file e h = tt
  sound_lists (list ∷ lists) file e h =
      let stmts = map (λ (e : Stated). e.0) list in
      let here = flat_map (λ (s : Said). s file) (map said stmts) in
      let rest = flat_map (λ list. flat_map (λ (s : Said). s file) list) (map (map said) (map (map (λ (e : Stated). e.0)) lists)) in
      let shorts = and_parts (list_is_short (map has_short_lists stmts)) (list_all list_is_short (map (map has_short_lists) (map (map (λ (e : Stated). e.0)) lists))) h in
      let own = and_parts (is_short (map has_short_lists stmts)) (list_all (λ (short : Bool). short) (map has_short_lists stmts)) shorts.0 in (
        sound_sequence protos formals file (map makes stmts) (still_short has_short_lists makes stmts own.0) (sound_list list file (first_nil here rest e) own.1),
        sound_lists lists file (second_nil here rest e) shorts.1,
      )

  sound_block : (y : FileBlock-F Stated Blocked) (file : Meanings Variable)
      → block_faults (map-FileBlock FileStmt FileBlock Said Said said said_block (bare_block y)) file ≡ []
      → block_is_short (map-FileBlock FileStmt FileBlock Bool Bool has_short_lists short_block (bare_block y)) ≡ true
      → Sounds protos formals file (block_made (map-FileBlock FileStmt FileBlock Maker Maker makes makes_block (bare_block y)))
  sound_block y file e h =
      let inner = declared (local_variables y.decls) file in
      let widths = flat_map (λ (decl : FileDecl). type_faults decl.ty) y.decls in
      let doubles = double_names (local_variables y.decls) file in
      let lists = map (map (λ (e : Stated). e.0)) y.lists in
      let told = flat_map (λ list. flat_map (λ (s : Said). s inner) list) (map (map said) lists) in
      let shorts = and_parts (is_short (map (map has_short_lists) lists)) (list_all list_is_short (map (map has_short_lists) lists)) h in
      let sequences : is_short (map in_sequence (map (map makes) lists)) ≡ true =
      ap (λ k. nat_lt k (2 ^ 32)) (length-map (map (map makes) lists) in_sequence) ∙ still_short (map has_short_lists) (map makes) lists shorts.0 in
      let makers = map in_sequence (map (map makes) lists) in
      sound_scope protos formals file y.decls (in_parallel makers) (first_nil widths (doubles ++ told) e)
      (sound_parallel protos formals inner makers sequences (sound_lists y.lists inner (second_nil doubles told (second_nil widths (doubles ++ told) e)) shorts.1))

  roll_sound : (x : FileStmt-F FileStmt FileBlock)
      → ((file : Meanings Variable) → node_faults protos callees (map-FileStmt FileStmt FileBlock Said Said said said_block x) file ≡ []
      → node_is_short (map-FileStmt FileStmt FileBlock Bool Bool has_short_lists short_block x) ≡ true
      → Sounds protos formals file (node_made protos callees (map-FileStmt FileStmt FileBlock Maker Maker makes makes_block x))) → Claim (roll-FileStmt x)
  unfolding made
  roll_sound x h = record {
    sounds = λ file e short.
        subst (λ m. Sounds protos formals file m) (sym (fold-roll-FileStmt Maker Maker (node_made protos callees) block_made x))
        (h file (subst (λ (s : Said). s file ≡ []) (fold-roll-FileStmt Said Said (node_faults protos callees) block_faults x) e)
        (sym (fold-roll-FileStmt Bool Bool node_is_short block_is_short x) ∙ short));
  }

  roll_sound_block : (x : FileBlock-F FileStmt FileBlock)
      → ((file : Meanings Variable) → block_faults (map-FileBlock FileStmt FileBlock Said Said said said_block x) file ≡ []
      → block_is_short (map-FileBlock FileStmt FileBlock Bool Bool has_short_lists short_block x) ≡ true
      → Sounds protos formals file (block_made (map-FileBlock FileStmt FileBlock Maker Maker makes makes_block x))) → BlockClaim (roll-FileBlock x)
  unfolding made
  roll_sound_block x h = record {
    sounds = λ file e short.
        subst (λ m. Sounds protos formals file m) (sym (fold-roll-FileBlock Maker Maker (node_made protos callees) block_made x))
        (h file (subst (λ (s : Said). s file ≡ []) (fold-roll-FileBlock Said Said (node_faults protos callees) block_faults x) e)
        (sym (fold-roll-FileBlock Bool Bool node_is_short block_is_short x) ∙ short));
  }

  pub statement_sound : (s : FileStmt) → Claim s
  statement_sound = ind-FileStmt Claim BlockClaim
      (λ x y is. subst (λ z. Claim (roll-FileStmt z)) is (roll_sound (bare y) (sound_node y)))
      (λ x y is. subst (λ z. BlockClaim (roll-FileBlock z)) is (roll_sound_block (bare_block y) (sound_block y)))

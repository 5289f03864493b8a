-- The core tree of a file against which nothing is said is sound, where its lists are short.
use Rattle.std.proofs.Common.{◌≡◌, true, map, List, [], ◌++◌, sym, subst, append-nil}
use Rattle.std.specs.List.{flat_map}
use Rattle.std.specs.Option.{is_none}
use Rattle.qz_syntax.specs.declared.declarations.Formal.{Formal}
use Rattle.qz_syntax.specs.declared.declarations.Decl.{Decl}
use Rattle.qz_syntax.specs.declared.files.File.{File}
use Rattle.qz_syntax.specs.declared.files.FileFormal.{FileFormal}
use Rattle.qz_syntax.specs.declared.files.FileProto.{FileProto}
use Rattle.qz_syntax.specs.Typing.{no_sight}
use Rattle.qz_syntax.specs.Sound.{is_sound}
use Rattle.qz_syntax.specs.WellFormed.{declared_by}
use Rattle.qz_types.specs.declared.faults.TypeKind.TheVariants.{DoubleName}
use Rattle.qz_types.specs.Faults.{unless}
use Rattle.qz_types.specs.Meanings.{no_meanings}
use Rattle.qz_types.specs.WrittenTypes.{type_faults}
use Rattle.qz_types.specs.Declarations.{double_names, formal_variables, formal_faults, too_many, declared, proto_numbers, label_names}
use Rattle.qz_types.specs.StatementFaults.{statement_faults}
use Rattle.qz_types.specs.FileFaults.{body_of, callees_of, faults_of, labels_of}
use Rattle.qz_types.specs.CoreDeclarations.{core_formal, formal_numbers}
use Rattle.qz_types.specs.CoreModules.{no_numbers, root_names, core_body, core_of}
use Rattle.qz_types.specs.ShortLists.{has_short_lists}
use Rattle.qz_types.proofs.Faultless.{first_nil, second_nil}
use Rattle.qz_types.proofs.Alike.{Alike, alike_declared}
use Rattle.qz_types.proofs.DeclaredAlike.{Entries, entries, formals_parallel}
use Rattle.qz_types.proofs.SoundForms.{given}
use Rattle.qz_types.proofs.SoundInduction.{statement_sound}

-- at the root of a body the names of formals stand for them
alike_root : (protos : List FileProto) (formals : List FileFormal) (decls : List Decl) → formal_faults formals ≡ []
    → Alike (given protos formals decls) no_sight (declared (formal_variables formals) no_meanings) (root_names formals)
alike_root protos formals decls e =
    let d = given protos formals decls in
    let widths = flat_map (λ (formal : FileFormal). type_faults formal.ty) formals in
    let found : Entries (map core_formal formals) 0 (map core_formal formals) =
    subst (λ (all : List Formal). Entries all 0 (map core_formal formals)) (append-nil (map core_formal formals)) (entries [] (map core_formal formals) []) in
    alike_declared d no_sight (formal_variables formals) (formal_numbers 0 formals) no_meanings no_meanings
    (formals_parallel d no_sight 0 formals (first_nil widths (double_names (formal_variables formals) no_meanings ++ too_many formals) e) found)
    (record { stands = λ name. tt })

pub sound : (file : File) → faults_of file ≡ [] → has_short_lists (body_of file) ≡ true
    → is_sound (declared_by (core_of file).protos (core_of file).«module») (core_of file).«module».body no_sight ≡ true
sound file e short =
    let protos = file.protos in
    let formals = file.«module».formals in
    let a = flat_map (λ (proto : FileProto). formal_faults proto.formals) protos in
    let b = double_names (proto_numbers 0 protos) no_meanings in
    let c = unless (is_none (callees_of protos file.«module».name.name)) DoubleName file.«module».name.at in
    let d = formal_faults formals in
    let s = statement_faults protos (callees_of protos) (body_of file) (declared (formal_variables formals) no_meanings) in
    let l = double_names (label_names (labels_of (body_of file))) no_meanings in
    let after_c = second_nil c (d ++ (s ++ l)) (second_nil b (c ++ (d ++ (s ++ l))) (second_nil a (b ++ (c ++ (d ++ (s ++ l)))) e)) in
    let said = first_nil s l (second_nil d (s ++ l) after_c) in
    let made = core_body file in
    let x = (statement_sound protos (callees_of protos) formals (first_nil a (b ++ (c ++ (d ++ (s ++ l)))) e) (body_of file)).sounds
    (declared (formal_variables formals) no_meanings) said short (root_names formals) no_numbers in
    x.sound made.next.decls [] (sym (append-nil made.next.decls)) no_sight (alike_root protos formals made.next.decls (first_nil d (s ++ l) after_c))

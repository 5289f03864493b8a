-- What is given for a file against which nothing is said is orderly, and typed where the file is bounded.
use Rattle.std.proofs.Common.{◌≡◌, ℕ, ◌+◌, ◌≤◌, true, false, length, map, List, [], ◌∷◌, ◌++◌, refl, sym, ap, subst, ◌∙◌, append-nil, arith}
use Rattle.std.specs.List.{flat_map, range_with_len, list_all}
use Rattle.std.specs.Option.{is_none}
use Rattle.qz_syntax.specs.declared.file_expressions.NameAt.{NameAt}
use Rattle.qz_syntax.specs.declared.files.File.{File}
use Rattle.qz_syntax.specs.declared.files.FileFormal.{FileFormal}
use Rattle.qz_syntax.specs.declared.files.FileProto.{FileProto}
use Rattle.qz_syntax.specs.declared.declarations.Decl.{Decl}
use Rattle.qz_values.specs.Types.{is_type}
use Rattle.qz_syntax.specs.declared.names.Name.{Name}
use Rattle.qz_syntax.specs.Numbers.{depth_of, holds_of}
use Rattle.qz_syntax.specs.DoubleNames.{is_among, are_distinct, formal_names, proto_names, names_differ}
use Rattle.qz_syntax.specs.WellFormed.{IsNumbered, IsTyped, is_unlabelled}
use Rattle.qz_types.specs.declared.faults.TypeKind.TheVariants.{DoubleName}
use Rattle.qz_types.specs.Faults.{unless}
use Rattle.qz_types.specs.Meanings.{no_meanings}
use Rattle.qz_types.specs.Declarations.{double_names, formal_variables, formal_faults, declared, proto_numbers, label_names as labels_declared}
use Rattle.qz_types.specs.StatementFaults.{statement_faults}
use Rattle.qz_types.specs.FileFaults.{body_of, callees_of, faults_of, labels_of}
use Rattle.qz_types.specs.CoreDeclarations.{core_formal, core_proto}
use Rattle.qz_types.specs.CoreModules.{no_numbers, root_names, core_body, core_of}
use Rattle.qz_types.specs.Levels.{IsBounded}
use Rattle.qz_types.specs.Orderly.{IsOrderly}
use Rattle.qz_types.specs.ShortLists.{has_short_lists}
use Rattle.qz_types.proofs.MadeInduction.{kept}
use Rattle.qz_types.proofs.Counting.{Sort, Counted, Counts, keeps_counts, places_sort, loops_sort, locals_sort, calls_sort}
use Rattle.qz_types.proofs.Unbound.{Unbound, keeps_unbound}
use Rattle.qz_types.proofs.Unlabelled.{Unlabelled, keeps_unlabelled}
use Rattle.qz_types.proofs.Labelling.{named, told_labels}
use Rattle.qz_types.proofs.Depth.{deep_statement}
use Rattle.qz_types.proofs.Differing.{Covers, known_by}
use Rattle.qz_types.proofs.NamesInduction.{statement_names}
use Rattle.qz_types.proofs.SoundFiles.{sound}
use Rattle.qz_types.proofs.Faultless.{first_nil, second_nil, test_holds, names_declared, declared_distinct, names_of_formals, names_of_protos, unknown, formals_good, protos_good}

-- the numbers of a sort in a file's body
counted : (k : Sort) (file : File) → Counted k (core_body file) no_numbers
counted k file = kept (Counts k) (keeps_counts k) file.protos (callees_of file.protos) (body_of file) (root_names file.«module».formals) no_numbers

from_none : (now before many : ℕ) → now ≡ before + many → before ≡ 0 → many ≡ now
from_none now before many e f = omega arith

numbered : (file : File) → IsNumbered (core_of file).«module»
unfolding places_sort loops_sort locals_sort calls_sort
numbered file =
    let body = core_body file in
    let p = counted places_sort file in
    let l = counted loops_sort file in
    let d = counted locals_sort file in
    let c = counted calls_sort file in
    let places : p.many ≡ length body.next.labels = from_none (length body.next.labels) 0 p.many p.counted refl in
    let loops : l.many ≡ body.next.loops = from_none body.next.loops 0 l.many l.counted refl in
    let locals : d.many ≡ length body.next.decls = from_none (length body.next.decls) 0 d.many d.counted refl in
    let calls : c.many ≡ body.next.calls = from_none body.next.calls 0 c.many c.counted refl in
    record {
      places = p.numbers ∙ ap (range_with_len 0) places;
      loops = l.numbers ∙ ap (range_with_len 0) loops;
      locals = d.numbers ∙ ap (range_with_len 0) locals;
      calls = c.numbers ∙ ap (range_with_len 0) calls;
    }

labels_named : (labels : List NameAt) → names_declared (labels_declared labels) ≡ named labels
labels_named [] = refl
labels_named (label ∷ labels) = ap (λ names. label.name ∷ names) (labels_named labels)

-- a name that stands for no prototype isn't among them
unknown_not_among : (protos : List FileProto) (name : Name) → is_none (callees_of protos name) ≡ true → is_among (proto_names (map core_proto protos)) name ≡ false
unknown_not_among protos name e =
    subst (λ names. is_among names name ≡ false) (names_of_protos 0 protos) (unknown (proto_numbers 0 protos) no_meanings name e).0

-- the names of formals stand for them
covers_formals : (formals : List FileFormal) → Covers (formal_names (map core_formal formals)) (declared (formal_variables formals) no_meanings)
covers_formals formals = record {
  covers = λ name e.
      known_by (formal_variables formals) no_meanings name (is_none (declared (formal_variables formals) no_meanings name)) refl
      (subst (λ names. is_among names name ≡ true) (sym (names_of_formals formals)) e);
}

pub orderly : (file : File) → faults_of file ≡ [] → has_short_lists (body_of file) ≡ true → IsOrderly (core_of file)
orderly file e short =
    let protos = file.protos in
    let a = flat_map (λ (proto : FileProto). formal_faults proto.formals) protos in
    let b = double_names (proto_numbers 0 protos) no_meanings in
    let c = unless (is_none (callees_of protos file.«module».name.name)) DoubleName file.«module».name.at in
    let d = formal_faults file.«module».formals in
    let s = statement_faults protos (callees_of protos) (body_of file) (declared (formal_variables file.«module».formals) no_meanings) in
    let l = double_names (labels_declared (labels_of (body_of file))) no_meanings in
    let after_a = second_nil a (b ++ (c ++ (d ++ (s ++ l)))) e in
    let after_b = second_nil b (c ++ (d ++ (s ++ l))) after_a in
    let after_c = second_nil c (d ++ (s ++ l)) after_b in
    let after_d = second_nil d (s ++ l) after_c in
    let after_s = second_nil s l after_d in
    let good_protos = protos_good protos (first_nil a (b ++ (c ++ (d ++ (s ++ l)))) e) in
    let good_formals = formals_good file.«module».formals (first_nil d (s ++ l) after_c) in
    let unlabelled = kept Unlabelled keeps_unlabelled protos (callees_of protos) (body_of file) (root_names file.«module».formals) no_numbers in
    let body = core_body file in
    let local = (statement_names protos (callees_of protos) (body_of file)).names (declared (formal_variables file.«module».formals) no_meanings)
    (first_nil s l after_d) (root_names file.«module».formals) no_numbers in
    record {
      numbered = numbered file;
      unlabelled = subst (λ labels. list_all (is_unlabelled labels) (holds_of body.tree) ≡ true) (append-nil body.next.labels) (unlabelled.holds []);
      unbound = kept Unbound keeps_unbound protos (callees_of protos) (body_of file) (root_names file.«module».formals) no_numbers;
      proto_types = good_protos.typed;
      formal_types = good_formals.typed;
      sound = sound file e short;
      proto_formals = good_protos.few;
      formals = good_formals.few;
      protos = record {
        protos = subst (λ names. are_distinct names ≡ true) (names_of_protos 0 protos) (declared_distinct (proto_numbers 0 protos) no_meanings (first_nil b (c ++ (d ++ (s ++ l))) after_a));
        formals = good_protos.distinct;
        module_name = unknown_not_among protos file.«module».name.name
            (test_holds (is_none (callees_of protos file.«module».name.name)) DoubleName file.«module».name.at (first_nil c (d ++ (s ++ l)) after_b));
      };
      local_types = subst (λ decls. list_all (λ (decl : Decl). is_type decl.ty) decls ≡ true) (sym local.next_decls) local.typed;
      names = record {
        formals = good_formals.distinct;
        locals = subst (λ decls. names_differ decls body.tree (formal_names (map core_formal file.«module».formals)) ≡ true) (append-nil body.next.decls)
            (local.differ [] (formal_names (map core_formal file.«module».formals)) (covers_formals file.«module».formals));
        labels =
            let told = told_labels protos (callees_of protos) (body_of file) (root_names file.«module».formals) no_numbers in
            subst (λ names. are_distinct names ≡ true) (labels_named (labels_of (body_of file)) ∙ sym told)
            (declared_distinct (labels_declared (labels_of (body_of file))) no_meanings after_s);
      };
    }

shallow : (file : File) → IsBounded file → depth_of (core_of file).«module».body ≤ 600
shallow file bound =
    let deep = deep_statement file.protos (callees_of file.protos) (body_of file) in
    let below = deep.below.below (root_names file.«module».formals) no_numbers in
    let most = bound.levels in
    omega (arith, below, most)

pub all_typed : (file : File) → faults_of file ≡ [] → has_short_lists (body_of file) ≡ true → IsBounded file → IsTyped (core_of file)
all_typed file e short bound =
    let o = orderly file e short in
    record {
      is_module = record {
        well_formed = record {
          numbered = o.numbered;
          unlabelled = o.unlabelled;
          proto_types = o.proto_types;
          formal_types = o.formal_types;
          local_types = o.local_types;
          sound = o.sound;
        };
        unbound = o.unbound;
        names = o.names;
        formals = o.formals;
        depth = shallow file bound;
      };
      protos = o.protos;
      formals = o.proto_formals;
    }

-- The first entry with the name is written in place, or there was none and one is appended.
use Rattle.std.proofs.Common.{rules, ◌≡◌, ℕ, true, List, Some, None, sym, ◌∙◌, ap}
use Rattle.std.specs.List.{position}
use Rattle.std.proofs.lemmas.List.Quantifiers.{position-Some}
use Rattle.std.proofs.lemmas.Slice.Eq.{bytes_eq-Decides}
use Rattle.qz_io.specs.Entries.{Entry, has_name}
use Rattle.qz_io.proofs.EntriesLemmas.{has_name-other, held_in-set_other, held_in-set_same, held_in-push_other, held_in-push_same, held_in-no_place}
use Rattle.qz_io.proofs.entries.put_entry.Goals as goal
use Rattle.qz_io.proofs.entries.put_entry.Goals.{After-drop-entry, In_ok-push-in-None}

-- the place that was found is the first with the name
placed : (c : After-drop-entry) → position (has_name c.args.name.now) c.args.entries.now.items ≡ Some c.in-Some.place
placed c = rw (← c.deref.ensures.value) (sym c.in-Some.ensures)

pub returns-in-Some-clause-put : goal.returns-in-Some-clause-put
returns-in-Some-clause-put c =
    let entry = c.index_mut-entry.result.now in
    let (below, here, first) = position-Some (has_name c.args.name.now) c.args.entries.now.items c.in-Some.place entry (placed c) in
    let is = c.index_mut-entry.ensures.value in
    let named : has_name c.args.name.now entry ≡ true = ap (has_name c.args.name.now) is ∙ here in
    let copied : c.in_ok-content.content.items ≡ c.args.bytes.now = search rules in
    held_in-set_same c.args.entries.now.items c.in-Some.place entry c.in_ok-content.content c.args.name.now below is named first
    ∙ ap (λ (bytes : List ℕ). Some bytes) copied

pub returns-in-Some-clause-others : goal.returns-in-Some-clause-others
returns-in-Some-clause-others c other differs =
    let entry = c.index_mut-entry.result.now in
    let (below, here, first) = position-Some (has_name c.args.name.now) c.args.entries.now.items c.in-Some.place entry (placed c) in
    let is = c.index_mut-entry.ensures.value in
    let named : has_name c.args.name.now entry ≡ true = ap (has_name c.args.name.now) is ∙ here in
    held_in-set_other c.args.entries.now.items c.in-Some.place entry c.in_ok-content.content other below is (has_name-other entry c.args.name.now other named differs)

-- the appended entry, which has the name
abbrev added : In_ok-push-in-None → Entry
added c = (c.in_ok-key-in-None.key, c.in_ok-content.content)

named : (c : In_ok-push-in-None) → has_name c.args.name.now (added c) ≡ true
named c = (bytes_eq-Decides _ _).1 c.in_ok-key-in-None.ensures.ok

pub returns-in_ok-push-in-None-clause-put : goal.returns-in_ok-push-in-None-clause-put
returns-in_ok-push-in-None-clause-put c =
    let none : position (has_name c.args.name.now) c.args.entries.now.items ≡ None = rw (← c.deref.ensures.value) (sym c.in-None.ensures) in
    let copied : c.in_ok-content.content.items ≡ c.args.bytes.now = search rules in
    rw c.in_ok-push-in-None.ensures.items
    (held_in-push_same c.args.entries.now.items (added c) c.args.name.now (held_in-no_place c.args.entries.now.items c.args.name.now none) (named c)
    ∙ ap (λ (bytes : List ℕ). Some bytes) copied)

pub returns-in_ok-push-in-None-clause-others : goal.returns-in_ok-push-in-None-clause-others
returns-in_ok-push-in-None-clause-others c other differs =
    rw c.in_ok-push-in-None.ensures.items
    (held_in-push_other c.args.entries.now.items (added c) other (has_name-other (added c) c.args.name.now other (named c) differs))

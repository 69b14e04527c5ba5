use Rattle.std.proofs.Common.{◌≡◌, ◌∙◌, ◌+◌, List, Some, None, length, string_bytes, sym, ap, arith, rules}
use Rattle.std.proofs.lemmas.List.{length-map}
use Rattle.std.specs.BTreeMap.{get_by_text}
use Rattle.hub_model.specs.Updates.{Note, id_of}
use Rattle.hub_updates.specs.Kept.{ids_of, pair_of}
use Rattle.hub_updates.proofs.KeptLemmas.{added_so, kept_past, kept_rows, kept_there, raised_so}
use Rattle.hub_updates.proofs.log.Log.note.Goals as goal

pub raise-requires-clause-there : goal.raise-requires-clause-there
raise-requires-clause-there c =
    let s = c.self.inside in
    let known : get_by_text s.numbers (id_of c.args.notice.now) ≡ Some c.in-Some.number =
    sym (rw c.id.ensures at c.in-Some.ensures) in
    omega (
      arith,
      kept_there (get_by_text s.numbers) (ids_of s.pairs.items) s.notes.items s.index c.self.invariant
          (id_of c.args.notice.now) c.in-Some.number known,
      length-map s.pairs.items pair_of,
    )

pub raise-requires-clause-row : goal.raise-requires-clause-row
raise-requires-clause-row c =
    let s = c.self.inside in
    record {
      own = search rules;
      positive = omega arith;
      above = λ k d l. omega (
        arith,
        kept_rows (get_by_text s.numbers) (ids_of s.pairs.items) s.notes.items s.index c.self.invariant k d l,
        c.len.ensures,
        c.in_ok-try_reserve.ensures.len,
        s.notes.ok.0,
      );
    }

pub add-requires-clause-row : goal.add-requires-clause-row
add-requires-clause-row c =
    let s = c.self.inside in
    record {
      own =
          rw (sym (length-map s.pairs.items pair_of))
          (kept_past (get_by_text s.numbers) (ids_of s.pairs.items) s.notes.items s.index c.self.invariant);
      positive = omega arith;
      above = λ k d l. omega (
        arith,
        kept_rows (get_by_text s.numbers) (ids_of s.pairs.items) s.notes.items s.index c.self.invariant k d l,
        c.len.ensures,
        c.in_ok-try_reserve.ensures.len,
        s.notes.ok.0,
      );
    }

pub invariant_of-self-in-Some : goal.invariant_of-self-in-Some
invariant_of-self-in-Some c =
    let s = c.self.inside in
    let known : get_by_text s.numbers (id_of c.args.notice.now) ≡ Some c.in-Some.number =
    sym (rw c.id.ensures at c.in-Some.ensures) in
    let last : c.len.result + 1 ≡ length s.notes.items + 1 =
    omega (arith, c.len.ensures, c.in_ok-try_reserve.ensures.len, s.notes.ok.0) in
    (raised_so (get_by_text s.numbers) (ids_of s.pairs.items) s.notes.items s.index c.self.invariant
    c.args.notice.now c.in-Some.number (c.len.result + 1) last known (ids_of c.raise.new.pairs.items)
    c.push_reserved.new.self.items c.raise.new.index c.in_ok-raise-in-Some.ensures.pairs
    (rw c.try_reserve.ensures.items at c.push_reserved.ensures.items) c.in_ok-raise-in-Some.ensures.index).0

pub invariant_of-self-in-None : goal.invariant_of-self-in-None
invariant_of-self-in-None c =
    let s = c.self.inside in
    let text : string_bytes c.in_ok-id-in-None.id ≡ id_of c.args.notice.now =
    c.in_ok-id-in-None.ensures.ok ∙ c.id-in-None.ensures in
    let none : get_by_text s.numbers (string_bytes c.in_ok-id-in-None.id) ≡ None =
    ap (get_by_text s.numbers) text ∙ sym (rw c.id.ensures at c.in-None.ensures) in
    let last : c.len.result + 1 ≡ length s.notes.items + 1 =
    omega (arith, c.len.ensures, c.in_ok-try_reserve.ensures.len, s.notes.ok.0) in
    (added_so (get_by_text s.numbers)
    (ids_of s.pairs.items) s.notes.items s.index c.self.invariant c.args.notice.now
    (c.len.result + 1) last (string_bytes c.in_ok-id-in-None.id) text none c.in_ok-number-in-None.number
    (c.in_ok-number-in-None.ensures.number ∙ sym (length-map s.pairs.items pair_of))
    (get_by_text c.add.new.numbers) (ids_of c.add.new.pairs.items) c.push_reserved-in-None.new.self.items
    c.add.new.index c.in_ok-number-in-None.ensures.numbers c.in_ok-number-in-None.ensures.pairs
    (rw c.try_reserve.ensures.items at c.push_reserved-in-None.ensures.items)
    c.in_ok-number-in-None.ensures.index).0

pub returns-in_ok-raise-in-Some : goal.returns-in_ok-raise-in-Some
returns-in_ok-raise-in-Some c =
    let s = c.self.inside in
    let known : get_by_text s.numbers (id_of c.args.notice.now) ≡ Some c.in-Some.number =
    sym (rw c.id.ensures at c.in-Some.ensures) in
    let last : c.len.result + 1 ≡ length s.notes.items + 1 =
    omega (arith, c.len.ensures, c.in_ok-try_reserve.ensures.len, s.notes.ok.0) in
    rw (sym c.self.view_is)
    (ap (λ (notes : List Note). record { notes = notes; life = s.life })
    (raised_so (get_by_text s.numbers) (ids_of s.pairs.items) s.notes.items s.index c.self.invariant
    c.args.notice.now c.in-Some.number (c.len.result + 1) last known (ids_of c.raise.new.pairs.items)
    c.push_reserved.new.self.items c.raise.new.index c.in_ok-raise-in-Some.ensures.pairs
    (rw c.try_reserve.ensures.items at c.push_reserved.ensures.items) c.in_ok-raise-in-Some.ensures.index).1)

pub returns-in_ok-number-in-None : goal.returns-in_ok-number-in-None
returns-in_ok-number-in-None c =
    let s = c.self.inside in
    let text : string_bytes c.in_ok-id-in-None.id ≡ id_of c.args.notice.now =
    c.in_ok-id-in-None.ensures.ok ∙ c.id-in-None.ensures in
    let none : get_by_text s.numbers (string_bytes c.in_ok-id-in-None.id) ≡ None =
    ap (get_by_text s.numbers) text ∙ sym (rw c.id.ensures at c.in-None.ensures) in
    let last : c.len.result + 1 ≡ length s.notes.items + 1 =
    omega (arith, c.len.ensures, c.in_ok-try_reserve.ensures.len, s.notes.ok.0) in
    rw (sym c.self.view_is)
    (ap (λ (notes : List Note). record { notes = notes; life = s.life })
    (added_so (get_by_text s.numbers)
    (ids_of s.pairs.items) s.notes.items s.index c.self.invariant c.args.notice.now
    (c.len.result + 1) last (string_bytes c.in_ok-id-in-None.id) text none c.in_ok-number-in-None.number
    (c.in_ok-number-in-None.ensures.number ∙ sym (length-map s.pairs.items pair_of))
    (get_by_text c.add.new.numbers) (ids_of c.add.new.pairs.items) c.push_reserved-in-None.new.self.items
    c.add.new.index c.in_ok-number-in-None.ensures.numbers c.in_ok-number-in-None.ensures.pairs
    (rw c.try_reserve.ensures.items at c.push_reserved-in-None.ensures.items)
    c.in_ok-number-in-None.ensures.index).1)

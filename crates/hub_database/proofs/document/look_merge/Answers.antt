use Rattle.std.proofs.Common.{[], refl, rules}
use Rattle.hub_database.proofs.MergeLemmas.{looks_known, looks_ready, looks_bad}
use Rattle.hub_database.proofs.document.look_merge.Goals as goal

pub returns-in-Ok-None : goal.returns-in-Ok-None
returns-in-Ok-None c =
    let known = rw c.in-Ok-None.field-0-is at c.in-Ok-None.ensures.known in
    record {
      edits = search rules;
      tree = search rules;
      looked =
          looks_known [] c.args.tree.now.edits c.args.path c.args.deleted c.args.body (known.0 refl);
      storable = search rules;
      room = search rules;
      memory = search rules;
    }

pub returns-in-Ok-Some : goal.returns-in-Ok-Some
returns-in-Ok-Some c =
    let known = rw c.in-Ok-Some.field-0-is at c.in-Ok-Some.ensures.known in
    let same = rw c.in-Ok-Some.field-0-is at c.in-Ok-Some.ensures.ready in
    let good = rw c.in-Ok-Some.field-0-is at c.in-Ok-Some.ensures.acceptable in
    record {
      edits = search rules;
      tree = search rules;
      looked =
          looks_ready [] c.args.tree.now.edits c.args.path c.args.deleted c.args.body c.in-Ok-Some.ready
          (λ h. let no = known.1 h in absurd (cc)) same good;
      storable = search rules;
      room = search rules;
      memory = search rules;
    }

pub returns-in-Err-Contradicts : goal.returns-in-Err-Contradicts
returns-in-Err-Contradicts c =
    let no = rw c.in-Err-Contradicts.field-0-is at c.in-Err-Contradicts.ensures.err in
    record {
      edits = search rules;
      tree = search rules;
      looked =
          looks_bad [] c.args.tree.now.edits c.args.path c.args.deleted c.args.body
          (rw c.in-Err-Contradicts.ensures.edits at c.in-Err-Contradicts.ensures.tree) no.0 no.1;
      storable = search rules;
      room = search rules;
      memory = search rules;
    }

pub returns-in-Err-NoMemory : goal.returns-in-Err-NoMemory
returns-in-Err-NoMemory c =
    let good = rw c.in-Err-NoMemory.field-0-is at c.in-Err-NoMemory.ensures.err in
    record {
      edits = search rules;
      tree = search rules;
      looked = search rules;
      storable = search rules;
      room = search rules;
      memory = good;
    }

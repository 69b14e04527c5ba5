use Rattle.std.proofs.Common.{ap, rules, sym}
use Rattle.hub_database.specs.Looked.{look_made}
use Rattle.hub_database.proofs.document.look_extend.Goals as goal

pub returns-in-Err-Conflict : goal.returns-in-Err-Conflict
returns-in-Err-Conflict c =
    let why = rw c.in-Err-Conflict.field-0-is at c.in-Err-Conflict.ensures.err in
    record {
      edits = search rules;
      tree = search rules;
      looked = sym (ap look_made why);
      storable = search rules;
      room = search rules;
      memory = search rules;
    }

pub returns-in-Err-GenerationLimit : goal.returns-in-Err-GenerationLimit
returns-in-Err-GenerationLimit c =
    let why = rw c.in-Err-GenerationLimit.field-0-is at c.in-Err-GenerationLimit.ensures.err in
    record {
      edits = search rules;
      tree = search rules;
      looked = sym (ap look_made why);
      storable = search rules;
      room = search rules;
      memory = search rules;
    }

pub returns-in-Err-NoMemory : goal.returns-in-Err-NoMemory
returns-in-Err-NoMemory c =
    let why = rw c.in-Err-NoMemory.field-0-is at c.in-Err-NoMemory.ensures.err in
    record {
      edits = search rules;
      tree = search rules;
      looked = search rules;
      storable = search rules;
      room = search rules;
      memory = why;
    }

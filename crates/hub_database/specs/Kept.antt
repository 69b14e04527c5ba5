-- The local documents that a map keeps (own).
use Rattle.std.specs.Prelude.{List, map, String, string_bytes}
use Rattle.std.specs.BTreeMap.{BTreeMap}
use Rattle.hub_database.specs.Database.{Local}
use Rattle.hub_database.specs.declared.local.Local as code

-- the local documents of a map, each with its id, in the byte order of the ids
abbrev pub locals_of : {Y : Type 0} → BTreeMap (String Y) code.Local → List Local
locals_of locals = map (λ e. record { id = string_bytes e.0; count = e.1.count; body = e.1.body }) locals.entries

-- RFC 9110, section 9.1: the names of methods, as they are kept.
use Rattle.std.specs.Prelude.{ℕ, List, codes}
use Rattle.hub_http.specs.declared.method_name.MethodRepr.{MethodRepr}
use Rattle.hub_http.specs.declared.method_name.MethodRepr.TheVariants.{Get, Head, Put, Post, Delete, Other}

-- the name that is kept
abbrev pub name_in : MethodRepr → List ℕ
name_in Get = codes "GET"
name_in Head = codes "HEAD"
name_in Put = codes "PUT"
name_in Post = codes "POST"
name_in Delete = codes "DELETE"
name_in (Other name) = name.items

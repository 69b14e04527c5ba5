-- A filter as the definitions know it (own).
use Rattle.std.specs.Prelude.{◌<◌, length}
use Rattle.hub_model.specs.Filter as model
use Rattle.hub_filter.specs.declared.filter.Filter.{Filter}
use Rattle.hub_filter.specs.declared.filter.Filter.TheVariants.{All, DocIds, Design}

-- the filter of `hub_model` that a filter stands for
abbrev pub filter_of : Filter → model.Filter
filter_of All = model.Everything
filter_of (DocIds ids) = model.DocIds ids
filter_of Design = model.Design

-- the filter lists at least one id
abbrev pub HasIds : model.Filter → Type 0
HasIds model.Everything = ⊥
HasIds (model.DocIds ids) = 0 < length ids
HasIds model.Design = ⊥

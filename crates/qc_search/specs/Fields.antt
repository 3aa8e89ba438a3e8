-- inner: the fields of a search, as clauses see them and as they are kept.
use Rattle.qc_search.specs.declared.search.Search.TheInside.{Inside}
use Rattle.qc_search.specs.Course.{search_in}
use Rattle.qc_search.specs.Progress.{IsBegun}
use Rattle.qc_search.specs.Run.{SearchView}

abbrev pub search_of : Inside → SearchView
search_of f = search_in f.roots f.progress

-- nothing was written yet
abbrev pub AreOpened : Inside → Type 0
AreOpened f = IsBegun f.roots f.progress

-- public: what contracts see of a shelf and a sink in memory.
use Rattle.std.specs.Prelude.{ℕ, List, [], map, Option, None, Some, option_map, unwrap_or, is_some, String, Vec, ◌++◌, refl}
use Rattle.std.specs.String.{string_bytes}
use Rattle.std.specs.Global.{Global}
use Rattle.std.specs.BTreeMap.{BTreeMap}
use Rattle.std.specs.FinMap.{from_entries, insert, code}
use Rattle.std.specs.Coded.{Coded, code_by, coded×, coded_ℕ, coded_list, coded_option}
use Rattle.qc_io.specs.Calls.{Counted}
use Rattle.qc_io.specs.Outside.{Files, View}

-- what a sink in memory took
pub record Taken : Type 0 where
  pub bytes : List ℕ
  pub faults : ℕ
  pub calls : Counted

-- what a shelf in memory holds; `rest` is what is left of the file that is open for reading, `making` the name and
-- the bytes of the file that is being made, and `most` is how many bytes a read or a write moves at most
pub record Held : Type 0 where
  pub files : Files
  pub rest : Option (List ℕ)
  pub making : Option (List ℕ × List ℕ)
  pub faults : ℕ
  pub read_faults : ℕ
  pub calls : Counted
  pub most : ℕ

-- the files of a map from names to bytes
abbrev pub files_of : BTreeMap (String Global) (Vec ℕ Global) → Files
files_of m = from_entries (map (λ e. (string_bytes e.0, e.1.items)) m.entries)

-- the file that is being made, with a piece behind it, where there is one
abbrev pub grown : Option (List ℕ × List ℕ) → List ℕ → Option (List ℕ × List ℕ)
grown making piece = option_map (λ (f : List ℕ × List ℕ). (f.0, f.1 ++ piece)) making

-- the files once the one that is being made is put in its place
abbrev pub with_made : Files → Option (List ℕ × List ℕ) → Files
with_made files None = files
with_made files (Some f) = insert files f.0 f.1

-- a shelf that holds all of this, as contracts see any shelf
abbrev pub held_view : Held → View
held_view h = record {
  written = option_map (λ (f : List ℕ × List ℕ). f.1) h.making;
  faults = h.faults;
  files = Some h.files;
  made = option_map (λ (f : List ℕ × List ℕ). f.0) h.making;
  rest = Some (unwrap_or h.rest []);
  reading = is_some h.rest;
  read_faults = h.read_faults;
}

-- a shelf is stored as the fields that contracts see
abbrev pub held_code : Coded Held
held_code =
    code_by (Files × (Option (List ℕ) × (Option (List ℕ × List ℕ) × (ℕ × (ℕ × (ℕ × (List ℕ × ℕ)))))))
    (coded× (code (coded_list coded_ℕ) (coded_list coded_ℕ))
    (coded× (coded_option (coded_list coded_ℕ))
    (coded× (coded_option (coded× (coded_list coded_ℕ) (coded_list coded_ℕ)))
    (coded× coded_ℕ (coded× coded_ℕ (coded× coded_ℕ (coded× (coded_list coded_ℕ) coded_ℕ)))))))
    (λ h. (h.files, (h.rest, (h.making, (h.faults, (h.read_faults, (h.calls.count, (h.calls.failing, h.most))))))))
    (λ p. record {
      files = p.0;
      rest = p.1.0;
      making = p.1.1.0;
      faults = p.1.1.1.0;
      read_faults = p.1.1.1.1.0;
      calls = record { count = p.1.1.1.1.1.0; failing = p.1.1.1.1.1.1.0 };
      most = p.1.1.1.1.1.1.1;
    }) (λ _. refl)

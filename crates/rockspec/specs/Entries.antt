-- What entries behind references say of platforms. No public clause cites this.
use Rattle.std.specs.Prelude.{ℕ, Bool, ◌&&◌, ◌||◌, not, List, codes}
use Rattle.std.specs.Borrow.{Bor}
use Rattle.std.specs.List.{list_all, list_any}
use Rattle.std.specs.Str.{bytes_eq}
use Rattle.rockspec.specs.Fields.{denies}

abbrev pub has_entry : List (Bor (List ℕ)) → List ℕ → Bool
has_entry entries text = list_any (λ entry. bytes_eq text entry.now) entries

abbrev pub are_entries_supported : List (Bor (List ℕ)) → Bool
are_entries_supported entries =
    not (has_entry entries (codes "!unix") || has_entry entries (codes "!linux"))
    && (has_entry entries (codes "unix") || has_entry entries (codes "linux")
    || list_all (λ entry. denies entry.now) entries)

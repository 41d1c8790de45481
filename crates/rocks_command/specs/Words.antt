-- What the words of a command line say. A word is the list of its bytes. (This project's own.)
use Rattle.std.specs.Prelude.{ℕ, ◌≡◌, ◌≤◌, Bool, false, ◌||◌, not, nat_lt, List, [], ◌∷◌, ◌++◌, length, codes, if◌then◌else◌, Result, Ok, Err}
use Rattle.std.specs.List.{list_any}
use Rattle.std.specs.Str.{bytes_eq}
use Rattle.rocks_text.specs.Texts.{is_file_path, is_name, lowered}
use Rattle.rocks_version.specs.Texts.{is_rock_version, is_version}
use Rattle.rocks_version.specs.declared.key.RockKey.{RockKey}
use Rattle.rocks_command.specs.declared.command.Command.{Command}
use Rattle.rocks_command.specs.declared.command.Command.TheVariants.{Add, Compare, Eval, Install, Lint}
use Rattle.rocks_command.specs.declared.fault.WordsFault.{WordsFault}
use Rattle.rocks_command.specs.declared.fault.WordsFault.TheVariants.{Options, BadWords, NoMemory}

abbrev pub is_tree_flag : List ℕ → Bool
is_tree_flag word = bytes_eq word (codes "--tree")

abbrev pub is_from_flag : List ℕ → Bool
is_from_flag word = bytes_eq word (codes "--from")

abbrev pub is_option : List ℕ → Bool
is_option word = is_tree_flag word || is_from_flag word

-- where a command works, and the words of the command itself
pub record Rooted : Type 0 where
  pub tree : List ℕ
  pub servers : List (List ℕ)
  pub command : List (List ℕ)

-- the words `--from DIR` of each server
abbrev pub from_words : (servers : List (List ℕ)) → List (List ℕ)
from_words [] = []
from_words (server ∷ servers) = codes "--from" ∷ server ∷ from_words servers

-- The words are `--tree DIR`, then `--from DIR` of each of at most 8 servers, then the command's, of which none is an
-- option.
pub record AreRooted (words : List (List ℕ)) (rooted : Rooted) : Type 0 where
  pub spelled : words ≡ codes "--tree" ∷ rooted.tree ∷ (from_words rooted.servers ++ rooted.command)
  pub few : length rooted.servers ≤ 8
  pub no_option : list_any is_option rooted.command ≡ false

-- the folders that pairs of words `--from DIR` at the front name
abbrev pub from_folders : List (List ℕ) → List (List ℕ)
from_folders (flag ∷ folder ∷ words) = if is_from_flag flag then folder ∷ from_folders words else []
from_folders words = []

-- the words behind such pairs
abbrev pub after_from : List (List ℕ) → List (List ℕ)
after_from (flag ∷ folder ∷ words) = if is_from_flag flag then after_from words else flag ∷ folder ∷ words
after_from words = words

-- no more than 8 servers, and no option among the words of the command
abbrev pub rooted_in : (tree : List ℕ) (servers command : List (List ℕ)) → Result Rooted WordsFault
rooted_in tree servers command =
    if nat_lt 8 (length servers) || list_any is_option command
    then Err Options
    else Ok (record { tree = tree; servers = servers; command = command })

-- The parts of which the words are made, read from the front; that these are the ones of `AreRooted`, and that there
-- are none else, is a law.
abbrev pub rooted : List (List ℕ) → Result Rooted WordsFault
rooted (flag ∷ tree ∷ words) =
    if is_tree_flag flag then rooted_in tree (from_folders words) (after_from words) else Err Options
rooted words = Err Options

-- what the words before word `count` say, with no word behind them
abbrev pub ended : {T : Type 0} → (count : ℕ) → T → List (List ℕ) → Result T WordsFault
ended count said [] = Ok said
ended count said (word ∷ words) = Err (BadWords count)

-- `VERSION` of a rock, for a name in lower case
abbrev pub key_version : (name : List ℕ) → List (List ℕ) → Result RockKey WordsFault
key_version name [] = Err (BadWords 2)
key_version name (version ∷ words) =
    if not (is_rock_version version) then Err (BadWords 2) else ended 3 (record { name = name; version = version }) words

-- `NAME VERSION`
abbrev pub rock_key : List (List ℕ) → Result RockKey WordsFault
rock_key [] = Err (BadWords 1)
rock_key (name ∷ words) = if is_name (lowered name) then key_version (lowered name) words else Err (BadWords 1)

-- the command on a rock that words name
abbrev pub keyed : (RockKey → Command) → Result RockKey WordsFault → Result Command WordsFault
keyed command (Ok key) = Ok (command key)
keyed command (Err fault) = Err fault

-- `PATH`
abbrev pub eval_path : List (List ℕ) → Result Command WordsFault
eval_path [] = Err (BadWords 1)
eval_path (path ∷ words) = if not (is_file_path path) then Err (BadWords 1) else ended 2 (Eval path) words

-- `VERSION`, behind another
abbrev pub compare_right : (left : List ℕ) → List (List ℕ) → Result Command WordsFault
compare_right left [] = Err (BadWords 2)
compare_right left (right ∷ words) = if not (is_version right) then Err (BadWords 2) else ended 3 (Compare left right) words

-- `VERSION VERSION`
abbrev pub compare_left : List (List ℕ) → Result Command WordsFault
compare_left [] = Err (BadWords 1)
compare_left (left ∷ words) = if not (is_version left) then Err (BadWords 1) else compare_right left words

-- `add NAME VERSION`, `install NAME VERSION`, `lint NAME VERSION`, `eval PATH` or `compare VERSION VERSION`. A fault has the number of the
-- first word that fits no command, which is the count of the words where they end too early.
abbrev pub command_in : List (List ℕ) → Result Command WordsFault
command_in [] = Err (BadWords 0)
command_in (word ∷ words) =
    if bytes_eq word (codes "add") then keyed Add (rock_key words)
    else (if bytes_eq word (codes "install") then keyed Install (rock_key words)
    else (if bytes_eq word (codes "lint") then keyed Lint (rock_key words)
    else (if bytes_eq word (codes "eval") then eval_path words
    else (if bytes_eq word (codes "compare") then compare_left words
    else Err (BadWords 0)))))

abbrev pub command_after : Result Rooted WordsFault → Result Command WordsFault
command_after (Ok rooted) = command_in rooted.command
command_after (Err fault) = Err fault

-- the command that whole words give, or what is wrong with them
abbrev pub command_of : List (List ℕ) → Result Command WordsFault
command_of words = command_after (rooted words)

-- A fault is that of the words, unless memory ran out.
abbrev pub IsFaultOf : {T : Type 0} → Result T WordsFault → WordsFault → Type 0
IsFaultOf read NoMemory = Unit {0}
IsFaultOf read Options = read ≡ Err Options
IsFaultOf read (BadWords which) = read ≡ Err (BadWords which)

-- what words name as the tree and the servers
abbrev pub RootsAre : Result Rooted WordsFault → (tree : List ℕ) → (servers : List (List ℕ)) → Type 0
RootsAre read tree servers = (command : List (List ℕ)) × (read ≡ Ok (record { tree = tree; servers = servers; command = command }))

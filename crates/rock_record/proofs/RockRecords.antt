-- The record of a rock is a record.
use Rattle.std.proofs.Common.{◌≡◌, ◌≢◌, ℕ, zero, suc, ◌<◌, List, [], ◌∷◌, ◌++◌, refl, sym, ap, ◌∙◌, subst, false, Bool, map, arith, lit<, slice_index, not, IsTrue, Ordering}
use Rattle.std.specs.Prelude.{◌↔◌}
use Rattle.std.specs.List.{All, AllByRecursion, list_all}
use Rattle.std.specs.List.Sorted.{IsStrictlySortedBy}
use Rattle.std.specs.Ordering.{is_eq, is_lt, ordering_reverse}
use Rattle.std.specs.Int.{to_le_bytes, byte_at, bytes_low_first, w32}
use Rattle.std.specs.declared.cmp.Ordering.TheVariants.{Less, Equal, Greater}
use Rattle.std.proofs.lemmas.Bool.{cond_both}
use Rattle.std.proofs.lemmas.List.Elements.{All-nil, All-cons, All-head, All-tail, All-map, All-weaker}
use Rattle.std.proofs.lemmas.Map.Text.{is_eq-slice_cmp}
use Rattle.std.proofs.lemmas.Slice.Eq.{bytes_eq-Decides}
use Rattle.hex.specs.Hex.{IsBytes}
use Rattle.md5.specs.Md5.{md5, digest_bytes}
use Rattle.md5.proofs.StandardFacts.{length-md5}
use Rattle.rocks_text.specs.Files.{path_cmp}
use Rattle.rocks_text.specs.Items.{item_cmp}
use Rattle.rocks_text.specs.declared.item.Item.{Item}
use Rattle.rock_record.specs.declared.rock.Rock.{Rock}
use Rattle.rock_manifest.specs.Records.{IsPath, IsDigest, IsRecord, AreItemsInOrder, ArePathsInOrder}
use Rattle.rock_record.specs.Rocks.{digested, put_in_order, record_of, HasPaths, IsInOrder}
use Rattle.rocks_version.specs.Keys.{rockspec_name}
use Rattle.rock_manifest.proofs.Orders.{below_later, less, path_total, tells_apart}
use Rattle.rock_record.proofs.RockspecNames.{rockspec_is_path}
use Rattle.rock_manifest.proofs.Spelling.{Files, IsFile}

-- ---- digests

bytes_append : (xs ys : List ℕ) → IsBytes xs → IsBytes ys → IsBytes (xs ++ ys)
bytes_append [] ys p q i = q i
bytes_append (x ∷ xs) ys p q zero = p 0
bytes_append (x ∷ xs) ys p q (suc i) = bytes_append xs ys (λ k. p (suc k)) q i

bytes_nil : IsBytes []
bytes_nil i = lit< tt

bytes_cons : (b : ℕ) (rest : List ℕ) → b < 256 → IsBytes rest → IsBytes (b ∷ rest)
bytes_cons b rest fits all zero = fits
bytes_cons b rest fits all (suc i) = all i

byte_fits : (i n : ℕ) → byte_at i n < 256
byte_fits zero n = omega arith
byte_fits (suc i) n = omega arith

low_bytes : (i k n : ℕ) → IsBytes (bytes_low_first i k n)
low_bytes i zero n = bytes_nil
low_bytes i (suc k) n = bytes_cons (byte_at i n) (bytes_low_first (suc i) k n) (byte_fits i n) (low_bytes (suc i) k n)

digest_is_bytes : (h : List ℕ) (n : ℕ) → IsBytes (digest_bytes h n)
unfolding digest_bytes
digest_is_bytes h zero = bytes_nil
digest_is_bytes h (suc n) = bytes_append (digest_bytes h n) (to_le_bytes w32 (slice_index h n)) (digest_is_bytes h n)
    (low_bytes 0 4 (slice_index h n))

md5_is_digest : (message : List ℕ) → IsDigest (md5 message)
unfolding md5
md5_is_digest message = (length-md5 message, digest_is_bytes _ 4)

abbrev with_digest : {A : Type 0} → A × List ℕ → A × List ℕ
with_digest file = (file.0, md5 file.1)

-- ---- order

same_keys : {A : Type 0} (files : List (A × List ℕ))
    → map (λ file. file.0) (digested files) ≡ map (λ file. file.0) files
same_keys [] = refl
same_keys (file ∷ files) = ap (λ l. file.0 ∷ l) (same_keys files)

order_above : (path other : List ℕ) (o : Ordering) → path_cmp path other ≡ o → path ≢ other → is_lt o ≡ false
    → path_cmp other path ≡ Less
order_above path other Less is apart low = cc
order_above path other Equal is apart low = absurd
    (apart ((bytes_eq-Decides path other).0 (sym (is_eq-slice_cmp path other) ∙ ap is_eq is)))
order_above path other Greater is apart low = path_total.antisymm other path ∙ ap ordering_reverse is

each_put : (P : List ℕ → Type 0) (file : List ℕ × List ℕ) (files : Files) → P file.0
    → AllByRecursion P (map (λ f. f.0) files) → AllByRecursion P (map (λ f. f.0) (put_in_order file files))
each_put P file [] one all = (one, tt)
each_put P file (first ∷ files) one all =
    cond_both (is_lt (path_cmp first.0 file.0)) (first ∷ put_in_order file files) (file ∷ first ∷ files)
    (λ (l : Files). AllByRecursion P (map (λ f. f.0) l))
    (λ _. (all.0, each_put P file files one all.1)) (λ _. (one, all))

put_sorted : (file : List ℕ × List ℕ) (files : Files) → ArePathsInOrder files → All (λ f. f.0 ≢ file.0) files
    → ArePathsInOrder (put_in_order file files)
unfolding IsStrictlySortedBy
put_sorted file [] sorted apart = (tt, tt)
put_sorted file (first ∷ files) sorted apart =
    cond_both (is_lt (path_cmp first.0 file.0)) (first ∷ put_in_order file files) (file ∷ first ∷ files) ArePathsInOrder
    (λ below. (
      each_put (λ other. path_cmp first.0 other ≡ Less) file files
          (less _ below) sorted.0,
      put_sorted file files sorted.1 (All-tail (λ f. f.0 ≢ file.0) first files apart),
    ))
    (λ no.
    let up = order_above first.0 file.0 (path_cmp first.0 file.0) refl
    (All-head (λ f. f.0 ≢ file.0) first files apart) no in
    ((up, below_later path_cmp path_total file.0 first.0 (map (λ f. f.0) files) up sorted.0), sorted))

files_put : (file : List ℕ × List ℕ) (files : Files) → IsFile file → All IsFile files
    → All IsFile (put_in_order file files)
files_put file [] one all = All-cons IsFile file [] one (All-nil IsFile)
files_put file (first ∷ files) one all =
    cond_both (is_lt (path_cmp first.0 file.0)) (first ∷ put_in_order file files) (file ∷ first ∷ files) (All IsFile)
    (λ _. All-cons IsFile first (put_in_order file files) (All-head IsFile first files all)
    (files_put file files one (All-tail IsFile first files all)))
    (λ _. All-cons IsFile file (first ∷ files) one all)

pub record_of_rock : (rock : Rock) → HasPaths rock → IsInOrder rock → IsRecord (record_of rock)
unfolding record_of
record_of_rock rock has ordered =
    let rockspec : List ℕ × List ℕ = (rockspec_name rock.key.name rock.key.version, md5 rock.rockspec) in
    let of_rockspec : IsFile rockspec =
    (rockspec_is_path rock.key.name rock.key.version has.name has.version, md5_is_digest rock.rockspec) in
    let apart : All (λ f. f.0 ≢ rockspec.0) (digested rock.own) = All-map
    (λ (f : List ℕ × List ℕ). f.0 ≢ rockspec.0) with_digest rock.own ordered.apart in
    let own : All IsFile (digested rock.own) = All-map IsFile with_digest rock.own
    (All-weaker (λ f. IsPath f.0) (λ f. IsFile (with_digest f))
    (λ f is. (is, md5_is_digest f.1)) rock.own has.own) in
    record {
      items = subst (IsStrictlySortedBy item_cmp) (sym (same_keys rock.items)) ordered.items;
      own = put_sorted rockspec (digested rock.own)
          (subst (IsStrictlySortedBy path_cmp) (sym (same_keys rock.own)) ordered.own) apart;
      item_files = All-map (λ f. IsPath f.0.path × IsDigest f.1) with_digest rock.items
          (All-weaker (λ f. IsPath f.0.path) (λ f. IsPath f.0.path × IsDigest (md5 f.1))
          (λ f is. (is, md5_is_digest f.1)) rock.items has.items);
      own_files = files_put rockspec (digested rock.own) of_rockspec own;
    }

-- a rock is in order where three tests say so
pub rock_tests : (rock : Rock) (items : List (Item × List ℕ)) (own others : Files) (path : List ℕ) (apart : Bool)
    → items ≡ rock.items → own ≡ rock.own → others ≡ rock.own → path ≡ rockspec_name rock.key.name rock.key.version
    → AreItemsInOrder items → ArePathsInOrder own
    → apart ≡ list_all (λ file. not (is_eq (path_cmp file.0 path))) others → IsTrue apart ↔ IsInOrder rock
rock_tests rock items own others path apart is_items is_own is_others is_path items_ordered own_ordered is =
    let ordered = subst (λ (l : List (Item × List ℕ)). AreItemsInOrder l) is_items items_ordered in
    let rises = subst (λ (l : Files). ArePathsInOrder l) is_own own_ordered in
    let of_path = is ∙ ap (λ (p : List ℕ). list_all (λ file. not (is_eq (path_cmp file.0 p))) others) is_path
    ∙ ap (list_all (λ (file : List ℕ × List ℕ). not
    (is_eq (path_cmp file.0 (rockspec_name rock.key.name rock.key.version))))) is_others in
    let tells = tells_apart (rockspec_name rock.key.name rock.key.version) rock.own apart of_path in
    (λ yes. record { items = ordered; own = rises; apart = tells.0 yes }, λ whole. tells.1 whole.apart)

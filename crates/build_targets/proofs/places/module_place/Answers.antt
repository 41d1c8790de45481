use Rattle.std.proofs.Common.{◌≡◌, ℕ, List, [], ◌∷◌, ◌++◌, ◌&&◌, not, codes, Bool, true, false, cond, refl, sym, ap, ◌∙◌, append_assoc}
use Rattle.std.specs.Prelude.{Result, Ok, Err}
use Rattle.std.proofs.lemmas.Result.{IfOk-weaker}
use Rattle.rocks_text.specs.Modules.{is_init_file, is_init_module, slashed}
use Rattle.rocks_text.specs.declared.item.Kind.TheVariants.{Lua}
use Rattle.build_targets.specs.Meanings.{blamed_of, is_path, item_target, module_target, source, target}
use Rattle.build_targets.specs.Places.{from_file}
use Rattle.build_targets.specs.declared.target.Dest.{Dest}
use Rattle.build_targets.specs.declared.target.Dest.TheVariants.{Item}
use Rattle.build_targets.proofs.places.module_place.Goals as goal

placed : (to : Dest) (is : Bool) (file blamed : List ℕ) → from_file file (cond is (Ok to) (Err blamed)) ≡ target to is file blamed
placed to true file blamed = refl
placed to false file blamed = refl

in_folder : (name file front : List ℕ) (place : Result Dest (List ℕ)) → front ≡ slashed name ++ 47 ∷ []
    → (is_init_file (source file) && not (is_init_module name)) ≡ true
    → place ≡ cond (is_path (front ++ codes "init.lua")) (Ok (Item (record { kind = Lua; path = front ++ codes "init.lua" }))) (Err (blamed_of front name file))
    → from_file file place ≡ module_target name file
in_folder name file front place of test is =
    let path = front ++ codes "init.lua" in
    let whole : path ≡ slashed name ++ codes "/init.lua" = ap (λ f. f ++ codes "init.lua") of ∙ append_assoc (slashed name) (47 ∷ []) (codes "init.lua") in
    let meant : module_target name file ≡ item_target Lua (slashed name ++ codes "/init.lua") file (blamed_of (slashed name ++ codes "/") name file) = rw test in
    ap (from_file file) is ∙ placed (Item (record { kind = Lua; path = path })) (is_path path) file (blamed_of front name file)
    ∙ ap (λ p. item_target Lua p file (blamed_of front name file)) whole
    ∙ ap (λ f. item_target Lua (slashed name ++ codes "/init.lua") file (blamed_of f name file)) of ∙ sym meant

pub returns : goal.returns
returns c =
    let name = c.args.name.now in
    let file = c.args.file.now in
    let front : c.deref.result.now ≡ slashed name ++ 47 ∷ [] = c.deref.ensures.value ∙ c.in_ok-push.ensures.items ∙ ap (λ l. l ++ 47 ∷ []) c.in_ok-folder.ensures in
    let test : (is_init_file (source file) && not (is_init_module name)) ≡ true =
    ap (λ s. is_init_file s && not (is_init_module name)) (sym c.source.ensures) ∙ sym c.is_folder_module.ensures ∙ c.if-not-is_folder_module.false in
    IfOk-weaker c.item_in.result _ _ (λ place is. in_folder name file c.deref.result.now place front test is) c.item_in.ensures
